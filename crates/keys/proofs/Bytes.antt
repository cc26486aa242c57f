-- Numbers in strings of bits, one bit at a time from the top, and from another place on.
use Rattle.std.proofs.Common.{◌≡◌, ℕ, zero, suc, ◌+◌, ◌-◌, ◌*◌, ◌^◌, ◌<◌, ◌≤◌, List, sym, refl, ap, ◌∙◌, arith, pow_mono}
use Rattle.spelling.specs.declared.parts.Parts.{Parts}
use Rattle.flows.specs.Keys.{schedule_bits, first_row, second_row, randomizer}
use Rattle.flows.specs.Strings.{byte_bit, number_at}
use Rattle.flows.proofs.Ciphers.{byte_bits}
use Rattle.flows.proofs.Cutting.{number_below}

pub number_none : (s : ℕ → ℕ) (p n : ℕ) → 0 ≡ number_at s p (n - n)
unfolding number_at
number_none s p n = let e : n - n ≡ 0 = omega arith in rw e refl

-- the bit at i - 1, put below the bits from i on
pub number_more : (s : ℕ → ℕ) (p i n : ℕ) → 0 < i → i ≤ n → s (p + (i - 1)) + 2 * number_at s (p + i) (n - i) ≡ number_at s (p + (i - 1)) (n - (i - 1))
unfolding number_at
number_more s p i n some within =
    let e : n - (i - 1) ≡ suc (n - i) = omega arith in
    let f : p + (i - 1) + 1 ≡ p + i = omega arith in
    rw (e, f) refl

-- of at most 64 bits
pub number_short : (bytes : List ℕ) (p n : ℕ) → n ≤ 64 → number_at (byte_bit bytes) p n < 2 ^ 64
number_short bytes p n h =
    let below = number_below (byte_bit bytes) (byte_bits bytes) p n in
    let most : 2 ^ n ≤ 2 ^ 64 = pow_mono h in
    omega arith

pub number_shifted : (s : ℕ → ℕ) (b p n : ℕ) → number_at (λ i. s (b + i)) p n ≡ number_at s (b + p) n
unfolding number_at
number_shifted s b p zero = refl
number_shifted s b p (suc n) =
    ap (λ z. s (b + p) + 2 * z) (number_shifted s b (p + 1) n ∙ ap (λ q. number_at s q n) (let e : b + (p + 1) ≡ b + p + 1 = omega arith in e))

-- The random parts of a round, which follow the bits of the schedule key.
pub rows : (p : Parts) (key : List ℕ) (j r0 r1 : ℕ)
    → r0 ≡ number_at (byte_bit key) (schedule_bits p.width + 2 * j * p.width) p.width
    → r1 ≡ number_at (byte_bit key) (schedule_bits p.width + (2 * j + 1) * p.width) p.width
    → (r0 ≡ first_row p.width (randomizer p key) j) × (r1 ≡ second_row p.width (randomizer p key) j)
rows p key j r0 r1 e f =
    let b = schedule_bits p.width in
    let n = p.width in
    (e ∙ sym (number_shifted (byte_bit key) b (2 * j * n) n), f ∙ sym (number_shifted (byte_bit key) b ((2 * j + 1) * n) n))
