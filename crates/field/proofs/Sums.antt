-- Exclusive or as a sum, and maps that keep it: two that agree on the powers of 2 agree.
use Rattle.std.proofs.Common.{◌≡◌, ℕ, zero, suc, ◌*◌, ◌/◌, ◌%◌, ◌^◌, ◌<◌, ◌≤◌, sym, refl, ap, ◌∙◌, subst, arith, pow_mono}
use lib.Bits.{bit_xor, xor_assoc, xor_comm, xor_self, xor_zero_l, xor_zero_r, xor_shifted, xor_step, differ}
use Rattle.std.proofs.Math.Nat.{pow-succ', one-mul, zero-mul}
use Rattle.std.proofs.lemmas.Nat.{pow_pos, shr_split, div_below, mod_below}

-- the four terms of two sums, summed crosswise
pub crosswise : (a b c d : ℕ) → bit_xor (bit_xor a b) (bit_xor c d) ≡ bit_xor (bit_xor a c) (bit_xor b d)
crosswise a b c d =
    xor_assoc a b (bit_xor c d)
    ∙ ap (bit_xor a) (sym (xor_assoc b c d) ∙ ap (λ z. bit_xor z d) (xor_comm b c) ∙ xor_assoc c b d)
    ∙ sym (xor_assoc a c (bit_xor b d))

-- a sum with the same twice
pub cancels : (a b : ℕ) → bit_xor a (bit_xor a b) ≡ b
cancels a b = sym (xor_assoc a a b) ∙ ap (λ z. bit_xor z b) (xor_self a) ∙ xor_zero_l b

-- sums that are equal with one part equal have the other equal
pub part : (a b c : ℕ) → bit_xor a b ≡ bit_xor a c → b ≡ c
part a b c e = sym (cancels a b) ∙ ap (bit_xor a) e ∙ cancels a c

pub scaled_below : (k c a : ℕ) → c < 2 → a < 2 ^ k → c * a < 2 ^ k
scaled_below k zero a hc ha = rw (zero-mul a) (pow_pos k)
scaled_below k (suc zero) a hc ha = rw (one-mul a) ha
scaled_below k (suc (suc c)) a hc ha = absurd (omega arith)

pub scale : (c u v : ℕ) → c < 2 → c * bit_xor u v ≡ bit_xor (c * u) (c * v)
scale zero u v h = rw (zero-mul (bit_xor u v), zero-mul u, zero-mul v) refl
scale (suc zero) u v h = one-mul (bit_xor u v) ∙ sym (ap (λ z. bit_xor z (1 * v)) (one-mul u) ∙ ap (bit_xor u) (one-mul v))
scale (suc (suc c)) u v h = absurd (omega arith)

pub scale_by : (c d w : ℕ) → c < 2 → d < 2 → bit_xor c d * w ≡ bit_xor (c * w) (d * w)
scale_by zero d w hc hd = rw (zero-mul w) refl
scale_by (suc zero) zero w hc hd = sym (ap (bit_xor (1 * w)) (zero-mul w) ∙ xor_zero_r (1 * w))
scale_by (suc zero) (suc zero) w hc hd = zero-mul w ∙ sym (xor_self (1 * w))
scale_by (suc zero) (suc (suc d)) w hc hd = absurd (omega arith)
scale_by (suc (suc c)) d w hc hd = absurd (omega arith)

pub double : (a b : ℕ) → 2 * bit_xor a b ≡ bit_xor (2 * a) (2 * b)
double a b =
    omega (arith, xor_step (2 * a) (2 * b), ap (λ z. bit_xor z (2 * b / 2)) (half a), ap (bit_xor a) (half b), ap (λ z. differ z (2 * b % 2)) (even a), ap (differ 0) (even b))
  where
    half : (n : ℕ) → 2 * n / 2 ≡ n
    half n = omega arith

    even : (n : ℕ) → 2 * n % 2 ≡ 0
    even n = omega arith

-- f keeps sums of numbers below 2^k
abbrev pub Adds : ℕ → (ℕ → ℕ) → Type 0
Adds k f = (a b : ℕ) → a < 2 ^ k → b < 2 ^ k → f (bit_xor a b) ≡ bit_xor (f a) (f b)

pub adds_none : (k : ℕ) (f : ℕ → ℕ) → Adds k f → f 0 ≡ 0
adds_none k f adds = sym (cancels (f 0) (f 0)) ∙ ap (bit_xor (f 0)) (sym (adds 0 0 (pow_pos k) (pow_pos k))) ∙ xor_self (f 0)

-- the top bit of a number, and what stands below it
record Split (k x : ℕ) : Type 0 where
  high : ℕ
  low : ℕ
  bit : high < 2
  small : low < 2 ^ k
  is : x ≡ bit_xor (high * 2 ^ k) low

splits : (k x : ℕ) → x < 2 ^ suc k → Split k x
splits k x h =
    record {
      high = x / 2 ^ k;
      low = x % 2 ^ k;
      bit = div_below x (2 ^ k) 2 (pow_pos k) (omega (arith, pow-succ' 2 k));
      small = mod_below x (2 ^ k) (pow_pos k);
      is = sym (xor_shifted (x / 2 ^ k) k (x % 2 ^ k) (mod_below x (2 ^ k) (pow_pos k)) ∙ shr_split x k);
    }

-- what holds of the powers of 2, and of 0 and of sums, holds of each number
pub each : (P : ℕ → Type 0) (k : ℕ) → P 0 → ((a b : ℕ) → a < 2 ^ k → b < 2 ^ k → P a → P b → P (bit_xor a b)) → ((i : ℕ) → i < k → P (2 ^ i))
    → (j : ℕ) → j ≤ k → (x : ℕ) → x < 2 ^ j → P x
each P k none sums powers zero h x small = let e : 0 ≡ x = omega arith in subst P e none
each P k none sums powers (suc j) h x small = go (splits j x small) (each P k none sums powers j (omega arith))
  where
    below : 2 ^ suc j ≤ 2 ^ k
    below = pow_mono h

    part_of : (c : ℕ) → c < 2 → P (c * 2 ^ j)
    part_of zero _ = subst P (sym (zero-mul (2 ^ j))) none
    part_of (suc zero) _ = subst P (sym (one-mul (2 ^ j))) (powers j (omega arith))
    part_of (suc (suc c)) l = absurd (omega arith)

    go : Split j x → ((y : ℕ) → y < 2 ^ j → P y) → P x
    go s lower = subst P (sym s.is) (sums (s.high * 2 ^ j) s.low (scaled_below k s.high (2 ^ j) s.bit (omega (arith, below, pow-succ' 2 j, pow_pos j))) (omega (arith, below, pow-succ' 2 j, s.small)) (part_of s.high s.bit) (lower s.low s.small))

-- two maps that keep sums and agree on the powers of 2 agree
pub agree : (k : ℕ) (f g : ℕ → ℕ) → Adds k f → Adds k g → ((i : ℕ) → i < k → f (2 ^ i) ≡ g (2 ^ i)) → (x : ℕ) → x < 2 ^ k → f x ≡ g x
agree k f g addf addg powers x h =
    each (λ z. f z ≡ g z) k (adds_none k f addf ∙ sym (adds_none k g addg))
    (λ a b ha hb ea eb. addf a b ha hb ∙ ap (λ z. bit_xor z (f b)) ea ∙ ap (bit_xor (g a)) eb ∙ sym (addg a b ha hb))
    powers k (omega arith) x h
