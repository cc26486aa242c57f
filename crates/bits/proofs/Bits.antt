-- What the bits of a number are after a shift, a mask or a sum, and that they tell the number.
use Rattle.std.proofs.Common.{◌≡◌, ℕ, zero, suc, ◌+◌, ◌-◌, ◌*◌, ◌/◌, ◌%◌, ◌^◌, ◌<◌, ◌≤◌, ◌⊎◌, sym, ap, ◌∙◌, subst, inl, inr, add-zero, mod-lt, mod-eq_of_lt, mul_assoc, mul_comm, pow-suc, div-one, arith, pow_pos, pow_mono, pow-add, shr-shr, shr_lt}
use native.Mathlib.Nat.{div-eq_of_lt}
use lib.Arith.{digits_lt}
use lib.Pow.{field, mod-mod-pow, high, low, split}
use Rattle.std.proofs.lemmas.Bool.{cases_order}
use Rattle.bits.specs.Bits.{bit}

pub bit_below : (x i : ℕ) → bit x i < 2
bit_below x i = mod-lt (x / 2 ^ i) (omega arith)

pub bit_first : (x : ℕ) → bit x 0 ≡ x % 2
bit_first x = ap (λ y. y % 2) (div-one x)

pub bit_shr : (x k i : ℕ) → bit (x / 2 ^ k) i ≡ bit x (k + i)
bit_shr x k i = ap (λ y. y % 2) (shr-shr x k i)

pub bit_half : (x i : ℕ) → bit (x / 2) i ≡ bit x (suc i)
bit_half x i = bit_shr x 1 i ∙ ap (bit x) (let e : 1 + i ≡ suc i = omega arith in e)

-- the lowest n bits are kept by the remainder
pub bit_mod : (n x i : ℕ) → i < n → bit (x % 2 ^ n) i ≡ bit x i
bit_mod n x i h =
    let d = n - suc i in
    let e : n ≡ d + 1 + i = omega arith in
    ap (λ m. x % 2 ^ m / 2 ^ i % 2) e ∙ ap (λ y. y % 2) (field x (d + 1) i) ∙ mod-mod-pow (x / 2 ^ i) d 1

-- a number of n bits has none from n on
pub bit_above : (n x i : ℕ) → x < 2 ^ n → n ≤ i → bit x i ≡ 0
bit_above n x i small h =
    let p : 2 ^ n ≤ 2 ^ i = pow_mono h in
    ap (λ y. y % 2) (div-eq_of_lt {n = x} {m = 2 ^ i} (omega arith))

-- of a number put together from an upper part and k low bits
pub bit_low : (k a b i : ℕ) → b < 2 ^ k → i < k → bit (a * 2 ^ k + b) i ≡ bit b i
bit_low k a b i small h = sym (bit_mod k (a * 2 ^ k + b) i h) ∙ ap (λ y. bit y i) (low a k small)

pub bit_high : (k a b i : ℕ) → b < 2 ^ k → bit (a * 2 ^ k + b) (k + i) ≡ bit a i
bit_high k a b i small = sym (bit_shr (a * 2 ^ k + b) k i) ∙ ap (λ y. bit y i) (high a k small)

-- Two numbers of n bits with the same bits are the same number.
pub same_bits : (n x y : ℕ) → x < 2 ^ n → y < 2 ^ n → ((i : ℕ) → i < n → bit x i ≡ bit y i) → x ≡ y
same_bits zero x y hx hy same = omega arith
same_bits (suc n) x y hx hy same =
    let p = pow-suc 2 n in
    let half : x / 2 ≡ y / 2 = same_bits n (x / 2) (y / 2) (omega arith) (omega arith) (λ i h. bit_half x i ∙ same (suc i) (omega arith) ∙ sym (bit_half y i)) in
    let first : x % 2 ≡ y % 2 = sym (bit_first x) ∙ same 0 (omega arith) ∙ bit_first y in
    omega arith

-- A digit b put into x at k, where x has none: it is there, the other bits stay, and n bits stay n bits.
module _ (x k b : ℕ) (absent : bit x k ≡ 0) (digit : b < 2) where
  twice : 2 ^ (k + 1) ≡ 2 ^ k * 2
  twice = pow-add 2 k 1

  -- by the bits above k, at k and below k
  parts : b * 2 ^ k + x ≡ x / 2 ^ (k + 1) * 2 ^ (k + 1) + (b * 2 ^ k + x % 2 ^ k)
  parts =
      let even : x / 2 ^ k ≡ x / 2 ^ k / 2 * 2 = omega arith in
      let upper : x / 2 ^ k * 2 ^ k ≡ x / 2 ^ (k + 1) * 2 ^ (k + 1) =
      ap (λ q. q * 2 ^ k) (even ∙ ap (λ q. q * 2) (shr-shr x k 1))
      ∙ mul_assoc (x / 2 ^ (k + 1)) 2 (2 ^ k)
      ∙ ap (λ q. x / 2 ^ (k + 1) * q) (mul_comm 2 (2 ^ k) ∙ sym twice) in
      let s = split x k in
      omega arith

  low_part : b * 2 ^ k + x % 2 ^ k < 2 ^ (k + 1)
  low_part = let d : b * 2 ^ k + x % 2 ^ k < 2 * 2 ^ k = digits_lt digit (mod-lt x (pow_pos k)) in let t = twice in omega arith

  pub put_there : bit (b * 2 ^ k + x) k ≡ b
  put_there =
      let here : k < k + 1 = omega arith in
      ap (λ y. bit y k) parts
      ∙ bit_low (k + 1) (x / 2 ^ (k + 1)) (b * 2 ^ k + x % 2 ^ k) k low_part here
      ∙ ap (bit (b * 2 ^ k + x % 2 ^ k)) (sym (add-zero k))
      ∙ bit_high k b (x % 2 ^ k) 0 (mod-lt x (pow_pos k))
      ∙ bit_first b
      ∙ mod-eq_of_lt digit

  pub put_other : (i : ℕ) → (i ≡ k → ⊥) → bit (b * 2 ^ k + x) i ≡ bit x i
  put_other i other = ap (λ y. bit y i) parts ∙ go (cases_order i k)
    where
      go : (i ≡ k) ⊎ ((i < k) ⊎ (k < i)) → bit (x / 2 ^ (k + 1) * 2 ^ (k + 1) + (b * 2 ^ k + x % 2 ^ k)) i ≡ bit x i
      go (inl e) = absurd (other e)
      go (inr (inl below)) =
          let within : i < k + 1 = omega arith in
          bit_low (k + 1) (x / 2 ^ (k + 1)) (b * 2 ^ k + x % 2 ^ k) i low_part within
          ∙ bit_low k b (x % 2 ^ k) i (mod-lt x (pow_pos k)) below
          ∙ bit_mod k x i below
      go (inr (inr above)) =
          let d = i - (k + 1) in
          let at : k + 1 + d ≡ i = omega arith in
          ap (bit (x / 2 ^ (k + 1) * 2 ^ (k + 1) + (b * 2 ^ k + x % 2 ^ k))) (sym at)
          ∙ bit_high (k + 1) (x / 2 ^ (k + 1)) (b * 2 ^ k + x % 2 ^ k) d low_part
          ∙ bit_shr x (k + 1) d
          ∙ ap (bit x) at

  pub put_below : (n : ℕ) → k < n → x < 2 ^ n → b * 2 ^ k + x < 2 ^ n
  put_below n h small =
      let m = n - (k + 1) in
      let e : n ≡ m + (k + 1) = omega arith in
      let s : x < 2 ^ (m + (k + 1)) = subst (λ i. x < 2 ^ i) e small in
      let p : 2 ^ n ≡ 2 ^ m * 2 ^ (k + 1) = ap (λ i. 2 ^ i) e ∙ pow-add 2 m (k + 1) in
      let d : x / 2 ^ (k + 1) * 2 ^ (k + 1) + (b * 2 ^ k + x % 2 ^ k) < 2 ^ m * 2 ^ (k + 1) = digits_lt (shr_lt m (k + 1) s) low_part in
      rw (parts, p) d
