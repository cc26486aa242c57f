-- The bits that the round keys are cut from, as they lie in the work space.
use Rattle.std.proofs.Common.{◌≡◌, ℕ, zero, suc, ◌+◌, ◌-◌, ◌*◌, ◌/◌, ◌%◌, ◌^◌, ◌<◌, ◌≤◌, ◌⊎◌, Bool, true, false, List, ◌++◌, length, take, get_or, refl, sym, ap, ◌∙◌, div-one, pow-suc, pow-add, inl, inr, arith}
use Rattle.std.proofs.lemmas.Bool.{lt-ltb, le-ltb, cases_order}
use Rattle.std.proofs.lemmas.List.{length-take-le, get_or-take, get_or_append_left, get_or-append_right}
use Rattle.std.specs.Int.{w64, byte_at, bytes_low_first, to_le_bytes}
use Rattle.bits.specs.Bits.{bit}
use Rattle.bits.proofs.Bits.{bit_mod, bit_shr}
use Rattle.spelling.specs.declared.parts.Parts.{Parts}
use Rattle.flows.specs.Keys.{with_more, expanded, round_key}
use Rattle.flows.specs.Strings.{byte_bit, number_at}
use Rattle.flows.proofs.Cutting.{number_same}
use Rattle.keys.specs.Expanding.{Scheduled}

-- The bits of a number stand in its bytes, the lowest first.
power : (q : ℕ) → 256 ^ q ≡ 2 ^ (8 * q)
power zero = refl
power (suc q) =
    let e : 8 * suc q ≡ 8 * q + 8 = omega arith in
    let f = pow-add 2 (8 * q) 8 in
    let g = pow-suc 256 q in
    let h = power q in
    rw e (omega arith)

byte_same : (q n : ℕ) → byte_at q n ≡ n / 2 ^ (8 * q) % 2 ^ 8
byte_same zero n = ap (λ z. z % 2 ^ 8) (sym (div-one n))
byte_same (suc q) n = ap (λ z. n / z % 2 ^ 8) (power (suc q))

byte_in : (j k n q : ℕ) → q < k → get_or (bytes_low_first j k n) q 0 ≡ byte_at (j + q) n
byte_in j zero n q h = absurd (omega arith)
byte_in j (suc k) n zero h = ap (λ i. byte_at i n) (let e : j ≡ j + 0 = omega arith in e)
byte_in j (suc k) n (suc q) h = byte_in (suc j) k n q (omega arith) ∙ ap (λ i. byte_at i n) (let e : suc j + q ≡ j + suc q = omega arith in e)

pub bit_in_bytes : (n i : ℕ) → i < 64 → byte_bit (to_le_bytes w64 n) i ≡ bit n i
bit_in_bytes n i h =
    let small : i % 8 < 8 = omega arith in
    ap (λ z. bit z (i % 8)) (byte_in 0 8 n (i / 8) (omega arith) ∙ ap (λ q. byte_at q n) (let e : 0 + i / 8 ≡ i / 8 = omega arith in e) ∙ byte_same (i / 8) n)
    ∙ bit_mod 8 (n / 2 ^ (8 * (i / 8))) (i % 8) small
    ∙ bit_shr n (8 * (i / 8)) (i % 8)
    ∙ ap (bit n) (let e : 8 * (i / 8) + i % 8 ≡ i = omega arith in e)

-- The first k bytes of a key, with others behind them.
front : (k : ℕ) (key rest : List ℕ) → k ≤ length key → (i : ℕ) → i / 8 < k → byte_bit (take k key ++ rest) i ≡ byte_bit key i
front k key rest long i h =
    let whole = length-take-le k key long in
    ap (λ z. bit z (i % 8)) (get_or_append_left (take k key) rest 0 (i / 8) (omega arith) ∙ get_or-take k key (i / 8) 0 h)

behind : (key rest : List ℕ) → 16 ≤ length key → (i : ℕ) → 128 ≤ i → byte_bit (take 16 key ++ rest) i ≡ byte_bit rest (i - 128)
behind key rest long i h =
    let whole = length-take-le 16 key long in
    let e : i / 8 - 16 ≡ (i - 128) / 8 = omega arith in
    let f : i % 8 ≡ (i - 128) % 8 = omega arith in
    ap (λ z. bit z (i % 8)) (get_or-append_right (take 16 key) rest 16 (i / 8) 0 (omega arith) (omega arith))
    ∙ ap (λ q. bit (get_or rest q 0) (i % 8)) e
    ∙ ap (bit (get_or rest ((i - 128) / 8) 0)) f

halves : (a b : ℕ) → (a < b) ⊎ (b ≤ a)
halves a b = elim (cases_order a b) [ inl e ↦ inr (omega arith) | inr (inl l) ↦ inl l | inr (inr g) ↦ inr (omega arith) ]

-- The cases of the schedule.
abbrev case : Bool → (ℕ → ℕ) → ℕ → ℕ → ℕ
case t s more = elim t [ true ↦ with_more s more | false ↦ s ]

with_low : (s : ℕ → ℕ) (more i : ℕ) → i < 128 → with_more s more i ≡ s i
with_low s more i h = ap (λ t. elim t [ true ↦ s i | false ↦ bit more (i - 128) ]) (lt-ltb i 128 h)

with_high : (s : ℕ → ℕ) (more i : ℕ) → 128 ≤ i → with_more s more i ≡ bit more (i - 128)
with_high s more i h = ap (λ t. elim t [ true ↦ s i | false ↦ bit more (i - 128) ]) (le-ltb i 128 h)

in_wide : (key : List ℕ) (more i : ℕ) → 16 ≤ length key → i < 192 → byte_bit (take 16 key ++ to_le_bytes w64 more) i ≡ with_more (byte_bit key) more i
in_wide key more i long h =
    elim (halves i 128) [
      | inl low ↦ front 16 key (to_le_bytes w64 more) long i (omega arith) ∙ sym (with_low (byte_bit key) more i low)
      | inr high ↦ behind key (to_le_bytes w64 more) long i high ∙ bit_in_bytes more (i - 128) (omega arith) ∙ sym (with_high (byte_bit key) more i high)
    ]

pub scheduled_narrow : (p : Parts) (key rest bytes : List ℕ) → p.width ≤ 32 → 12 ≤ length key → bytes ≡ take 12 key ++ rest → Scheduled p key bytes
scheduled_narrow p key rest bytes narrow long e i h =
    ap (λ z. byte_bit z i) e ∙ front 12 key rest long i (omega arith) ∙ sym (ap (λ t. case t (byte_bit key) (expanded p key) i) (le-ltb 32 p.width narrow))

pub scheduled_wide : (p : Parts) (key bytes : List ℕ) (more : ℕ) → 32 < p.width → p.width ≤ 64 → 16 ≤ length key → more ≡ expanded p key → bytes ≡ take 16 key ++ to_le_bytes w64 more → Scheduled p key bytes
scheduled_wide p key bytes more wide fits long e f i h =
    ap (λ z. byte_bit z i) f
    ∙ in_wide key more i long (omega arith)
    ∙ ap (λ z. with_more (byte_bit key) z i) e
    ∙ sym (ap (λ t. case t (byte_bit key) (expanded p key) i) (lt-ltb 32 p.width wide))

pub cut_key : (p : Parts) (key bytes : List ℕ) → Scheduled p key bytes → (j : ℕ) → j < 3 → number_at (byte_bit bytes) (j * p.width) p.width ≡ round_key p key j
cut_key p key bytes same j h = number_same _ _ (j * p.width) p.width (λ i below. same (j * p.width + i) (search arith))
