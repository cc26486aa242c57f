-- The product of a field of m bits: it keeps sums in both factors, has 1, and is commutative and associative. Once over the
-- width and the low part.
use Rattle.std.proofs.Common.{◌≡◌, ℕ, zero, suc, ◌+◌, ◌*◌, ◌/◌, ◌%◌, ◌^◌, ◌<◌, ◌⊎◌, sym, refl, ap, ◌∙◌, inl, inr, mod-eq_of_lt, arith}
use native.Mathlib.Nat.{div-eq_of_lt, mod_self, div_self}
use lib.Bits.{bit_xor, xor_zero_r, xor_lt, xor_mod, xor_shr}
use Rattle.std.proofs.lemmas.Bool.{cases_eq}
use Rattle.std.proofs.lemmas.Nat.{pow_pos, pow_below, div_below, mod_below}
use Rattle.field.specs.Fields.{twice, mul_by, mul}
use Rattle.field.proofs.Sums.{crosswise, scale_by, double, scaled_below, Adds, agree}
use Rattle.std.proofs.Math.Nat.{one-mul, zero-mul, pow-succ'}
use Rattle.field.proofs.Along.{Linear, up, up_last, up_adds, along_in, along_adds, along_adds_r, along_step, along_power}

abbrev pub Below : ℕ → ℕ → Type 0
Below m a = a < 2 ^ m

module _ (m low : ℕ) (small : low < 2 ^ m) where
  carry : (a : ℕ) → a < 2 ^ m → 2 * a / 2 ^ m < 2
  carry a h = div_below (2 * a) (2 ^ m) 2 (pow_pos m) (omega arith)

  pub twice_lt : (a : ℕ) → a < 2 ^ m → twice m low a < 2 ^ m
  unfolding twice
  twice_lt a h = xor_lt m (2 * a % 2 ^ m) (2 * a / 2 ^ m * low) (mod_below (2 * a) (2 ^ m) (pow_pos m)) (scaled_below m (2 * a / 2 ^ m) low (carry a h) small)

  pub twice_adds : Adds m (twice m low)
  unfolding twice
  twice_adds a b ha hb =
      ap (λ z. bit_xor (z % 2 ^ m) (z / 2 ^ m * low)) (double a b)
      ∙ ap (λ z. bit_xor z (bit_xor (2 * a) (2 * b) / 2 ^ m * low)) (xor_mod (2 * a) (2 * b) m)
      ∙ ap (λ z. bit_xor (bit_xor (2 * a % 2 ^ m) (2 * b % 2 ^ m)) (z * low)) (xor_shr (2 * a) (2 * b) m)
      ∙ ap (bit_xor (bit_xor (2 * a % 2 ^ m) (2 * b % 2 ^ m))) (scale_by (2 * a / 2 ^ m) (2 * b / 2 ^ m) low (carry a ha) (carry b hb))
      ∙ crosswise (2 * a % 2 ^ m) (2 * b % 2 ^ m) (2 * a / 2 ^ m * low) (2 * b / 2 ^ m * low)

  pub twice_linear : Linear (Below m) (twice m low)
  twice_linear = record { none = pow_pos m; keeps = twice_lt; sums = xor_lt m; adds = twice_adds }

  pub mul_by_lt : (k a b : ℕ) → a < 2 ^ m → mul_by m low k a b < 2 ^ m
  mul_by_lt = along_in (twice m low) (Below m) twice_linear

  -- sums in the first factor
  pub mul_by_adds : (k b : ℕ) → Adds m (λ a. mul_by m low k a b)
  mul_by_adds = along_adds (twice m low) (Below m) twice_linear

  -- sums in the second
  pub mul_by_adds_r : (k a b c : ℕ) → mul_by m low k a (bit_xor b c) ≡ bit_xor (mul_by m low k a b) (mul_by m low k a c)
  mul_by_adds_r = along_adds_r (twice m low)

  -- x goes out of the first factor
  pub mul_by_twice : (k a b : ℕ) → a < 2 ^ m → mul_by m low k (twice m low a) b ≡ twice m low (mul_by m low k a b)
  mul_by_twice = along_step (twice m low) (Below m) twice_linear

  pub twice_below : (a : ℕ) → 2 * a < 2 ^ m → twice m low a ≡ 2 * a
  unfolding twice
  twice_below a h =
      ap (λ z. bit_xor z (2 * a / 2 ^ m * low)) (mod-eq_of_lt h)
      ∙ ap (λ z. bit_xor (2 * a) (z * low)) (div-eq_of_lt h)
      ∙ ap (bit_xor (2 * a)) (zero-mul low)
      ∙ xor_zero_r (2 * a)

  pub twice_power : (i : ℕ) → suc i < m → twice m low (2 ^ i) ≡ 2 ^ suc i
  twice_power i h = twice_below (2 ^ i) (omega (arith, pow-succ' 2 i, pow_below (suc i) m h)) ∙ sym (pow-succ' 2 i)

  pub twice_top : (i : ℕ) → suc i ≡ m → twice m low (2 ^ i) ≡ low
  unfolding twice
  twice_top i h =
      let e : 2 * 2 ^ i ≡ 2 ^ m = sym (pow-succ' 2 i) ∙ ap (λ z. 2 ^ z) h in
      ap (λ z. bit_xor (z % 2 ^ m) (z / 2 ^ m * low)) e
      ∙ ap (λ z. bit_xor z (2 ^ m / 2 ^ m * low)) (mod_self (2 ^ m))
      ∙ ap (λ z. z * low) (div_self (pow_pos m))
      ∙ one-mul low

  pub up_power : (k i : ℕ) → k + i < m → up (twice m low) k (2 ^ i) ≡ 2 ^ (k + i)
  up_power zero i h = let e : i ≡ 0 + i = omega arith in ap (λ z. 2 ^ z) e
  up_power (suc k) i h =
      let e : k + suc i ≡ suc k + i = omega arith in
      ap (up (twice m low) k) (twice_power i (omega arith)) ∙ up_power k (suc i) (omega arith) ∙ ap (λ z. 2 ^ z) e

  pub up_one : (i : ℕ) → i < m → up (twice m low) i 1 ≡ 2 ^ i
  up_one i h = let e : i + 0 ≡ i = omega arith in up_power i 0 (omega arith) ∙ ap (λ z. 2 ^ z) e

  pub one_lt : 0 < m → 1 < 2 ^ m
  one_lt h = omega (arith, pow_below 0 m h)

  module _ (wide : 0 < m) where
    pub one_mul : (b : ℕ) → b < 2 ^ m → mul m low 1 b ≡ b
    one_mul = agree m (mul m low 1) (λ z. z) (λ a b _ _. mul_by_adds_r m 1 a b) (λ _ _ _ _. refl) (λ i h. along_power (twice m low) m i 1 h ∙ up_one i h)

    pub mul_one : (a : ℕ) → mul m low a 1 ≡ a
    mul_one a = along_power (twice m low) m 0 a wide

    -- a map that keeps sums and x is settled by what it makes of 1
    pub by_one : (f g : ℕ → ℕ) → Adds m f → Adds m g → ((a : ℕ) → a < 2 ^ m → f (twice m low a) ≡ twice m low (f a))
        → ((a : ℕ) → a < 2 ^ m → g (twice m low a) ≡ twice m low (g a)) → f 1 ≡ g 1 → (x : ℕ) → x < 2 ^ m → f x ≡ g x
    by_one f g addf addg twf twg e = agree m f g addf addg (λ i h. at f twf i h ∙ ap (up (twice m low) i) e ∙ sym (at g twg i h))
      where
        climbs : (f : ℕ → ℕ) → ((a : ℕ) → a < 2 ^ m → f (twice m low a) ≡ twice m low (f a)) → (i a : ℕ) → a < 2 ^ m → f (up (twice m low) i a) ≡ up (twice m low) i (f a)
        climbs f tw zero a h = refl
        climbs f tw (suc i) a h = climbs f tw i (twice m low a) (twice_lt a h) ∙ ap (up (twice m low) i) (tw a h)

        at : (f : ℕ → ℕ) → ((a : ℕ) → a < 2 ^ m → f (twice m low a) ≡ twice m low (f a)) → (i : ℕ) → i < m → f (2 ^ i) ≡ up (twice m low) i (f 1)
        at f tw i h = ap f (sym (up_one i h)) ∙ climbs f tw i 1 (one_lt wide)

    pub up_width : up (twice m low) m 1 ≡ low
    up_width = go m refl wide
      where
        go : (k : ℕ) → k ≡ m → 0 < k → up (twice m low) k 1 ≡ low
        go zero e h = absurd (omega arith)
        go (suc k) e h = up_last (twice m low) k 1 ∙ ap (twice m low) (up_one k (omega arith)) ∙ twice_top k e

    pub mul_low : (a : ℕ) → a < 2 ^ m → mul m low a low ≡ up (twice m low) m a
    mul_low =
        by_one (λ a. mul m low a low) (up (twice m low) m) (mul_by_adds m low) (up_adds (twice m low) (Below m) twice_linear m) (λ a h. mul_by_twice m a low h) (λ a h. up_last (twice m low) m a)
        (one_mul low small ∙ sym up_width)

    -- x goes out of the second factor
    pub mul_twice : (a : ℕ) → a < 2 ^ m → (b : ℕ) → b < 2 ^ m → mul m low a (twice m low b) ≡ twice m low (mul m low a b)
    mul_twice a h =
        agree m (λ b. mul m low a (twice m low b)) (λ b. twice m low (mul m low a b))
        (λ b c hb hc. ap (mul m low a) (twice_adds b c hb hc) ∙ mul_by_adds_r m a (twice m low b) (twice m low c))
        (λ b c hb hc. ap (twice m low) (mul_by_adds_r m a b c) ∙ twice_adds (mul m low a b) (mul m low a c) (mul_by_lt m a b h) (mul_by_lt m a c h))
        (λ i hi. power i hi (cases_eq (suc i) m))
      where
        power : (i : ℕ) → i < m → (suc i ≡ m) ⊎ (suc i ≡ m → ⊥) → mul m low a (twice m low (2 ^ i)) ≡ twice m low (mul m low a (2 ^ i))
        power i hi (inl e) =
            ap (mul m low a) (twice_top i e) ∙ mul_low a h ∙ ap (λ z. up (twice m low) z a) (sym e) ∙ up_last (twice m low) i a ∙ ap (twice m low) (sym (along_power (twice m low) m i a hi))
        power i hi (inr ne) =
            ap (mul m low a) (twice_power i (omega arith)) ∙ along_power (twice m low) m (suc i) a (omega arith) ∙ up_last (twice m low) i a ∙ ap (twice m low) (sym (along_power (twice m low) m i a hi))

    pub mul_comm : (a : ℕ) → a < 2 ^ m → (b : ℕ) → b < 2 ^ m → mul m low a b ≡ mul m low b a
    mul_comm a ha b hb =
        by_one (λ z. mul m low z b) (mul m low b) (mul_by_adds m b) (λ u v _ _. mul_by_adds_r m b u v) (λ z h. mul_by_twice m z b h)
        (λ z h. mul_twice b hb z h) (one_mul b hb ∙ sym (mul_one b)) a ha

    pub mul_assoc : (a : ℕ) → a < 2 ^ m → (b c : ℕ) → b < 2 ^ m → c < 2 ^ m → mul m low (mul m low a b) c ≡ mul m low a (mul m low b c)
    mul_assoc a ha b c hb hc =
        by_one (λ z. mul m low (mul m low z b) c) (λ z. mul m low z (mul m low b c))
        (λ u v hu hv. ap (λ z. mul m low z c) (mul_by_adds m b u v hu hv) ∙ mul_by_adds m c (mul m low u b) (mul m low v b) (mul_by_lt m u b hu) (mul_by_lt m v b hv))
        (mul_by_adds m (mul m low b c))
        (λ z h. ap (λ y. mul m low y c) (mul_by_twice m z b h) ∙ mul_by_twice m (mul m low z b) c (mul_by_lt m z b h))
        (λ z h. mul_by_twice m z (mul m low b c) h)
        (ap (λ z. mul m low z c) (one_mul b hb) ∙ sym (one_mul (mul m low b c) (mul_by_lt m b c hb)))
        a ha
