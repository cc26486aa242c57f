-- Sums of a, t a, t (t a) and so on over the set bits of a number, for any map t.
use Rattle.std.proofs.Common.{◌≡◌, ℕ, zero, suc, ◌+◌, ◌*◌, ◌/◌, ◌%◌, ◌^◌, ◌<◌, sym, refl, ap, ◌∙◌, arith}
use lib.Bits.{bit_xor, xor_self, xor_zero_r, xor_mod, xor_shr}
use Rattle.field.specs.Polynomials.{along}
use Rattle.field.proofs.Sums.{crosswise, cancels, scale, scale_by}
use Rattle.std.proofs.Math.Nat.{one-mul, zero-mul, pow-succ'}

-- k times t
abbrev pub up : (ℕ → ℕ) → ℕ → ℕ → ℕ
up t zero a = a
up t (suc k) a = up t k (t a)

pub odd_lt : (b : ℕ) → b % 2 < 2
odd_lt b = omega arith

-- where D holds, t keeps it and keeps sums
pub record Linear (D : ℕ → Type 0) (t : ℕ → ℕ) : Type 0 where
  pub none : D 0
  pub keeps : (a : ℕ) → D a → D (t a)
  pub sums : (a b : ℕ) → D a → D b → D (bit_xor a b)
  pub adds : (a b : ℕ) → D a → D b → t (bit_xor a b) ≡ bit_xor (t a) (t b)

module _ (t : ℕ → ℕ) where
  pub up_last : (k a : ℕ) → up t (suc k) a ≡ t (up t k a)
  up_last zero a = refl
  up_last (suc k) a = up_last k (t a)

  pub up_join : (j k a : ℕ) → up t j (up t k a) ≡ up t (k + j) a
  up_join j zero a = let e : j ≡ 0 + j = omega arith in ap (λ z. up t z a) e
  up_join j (suc k) a = let e : suc (k + j) ≡ suc k + j = omega arith in up_join j k (t a) ∙ ap (λ z. up t z a) e

  -- sums of b
  pub along_adds_r : (k a b c : ℕ) → along t k a (bit_xor b c) ≡ bit_xor (along t k a b) (along t k a c)
  unfolding along
  along_adds_r zero a b c = refl
  along_adds_r (suc k) a b c =
      ap (λ z. bit_xor (z * a) (along t k (t a) (bit_xor b c / 2))) (xor_mod b c 1)
      ∙ ap (λ z. bit_xor z (along t k (t a) (bit_xor b c / 2))) (scale_by (b % 2) (c % 2) a (odd_lt b) (odd_lt c))
      ∙ ap (λ z. bit_xor (bit_xor (b % 2 * a) (c % 2 * a)) (along t k (t a) z)) (xor_shr b c 1)
      ∙ ap (bit_xor (bit_xor (b % 2 * a) (c % 2 * a))) (along_adds_r k (t a) (b / 2) (c / 2))
      ∙ crosswise (b % 2 * a) (c % 2 * a) (along t k (t a) (b / 2)) (along t k (t a) (c / 2))

  pub along_none : (k a : ℕ) → along t k a 0 ≡ 0
  unfolding along
  along_none zero a = refl
  along_none (suc k) a = ap (λ z. bit_xor z (along t k (t a) 0)) (zero-mul a) ∙ along_none k (t a)

  -- bits that b has not do not count
  pub along_more : (k j a b : ℕ) → b < 2 ^ k → along t (k + j) a b ≡ along t k a b
  unfolding along
  along_more zero j a b h =
      let e : b ≡ 0 = omega arith in
      let f : 0 + j ≡ j = omega arith in
      ap (λ z. along t z a b) f ∙ ap (along t j a) e ∙ along_none j a
  along_more (suc k) j a b h =
      let e : suc k + j ≡ suc (k + j) = omega arith in
      ap (λ z. along t z a b) e ∙ ap (bit_xor (b % 2 * a)) (along_more k j (t a) (b / 2) (omega (arith, pow-succ' 2 k)))

  -- at a power of 2
  pub along_power : (k i a : ℕ) → i < k → along t k a (2 ^ i) ≡ up t i a
  unfolding along
  along_power zero i a h = absurd (omega arith)
  along_power (suc k) zero a h = ap (λ z. bit_xor z (along t k (t a) 0)) (one-mul a) ∙ ap (bit_xor a) (along_none k (t a)) ∙ xor_zero_r a
  along_power (suc k) (suc i) a h =
      let odd : 2 ^ suc i % 2 ≡ 0 = omega (arith, pow-succ' 2 i) in
      let half : 2 ^ suc i / 2 ≡ 2 ^ i = omega (arith, pow-succ' 2 i) in
      ap (λ z. bit_xor (z * a) (along t k (t a) (2 ^ suc i / 2))) odd
      ∙ ap (λ z. bit_xor z (along t k (t a) (2 ^ suc i / 2))) (zero-mul a)
      ∙ ap (along t k (t a)) half
      ∙ along_power k i (t a) (omega arith)

  module _ (D : ℕ → Type 0) (linear : Linear D t) where
    pub none_kept : t 0 ≡ 0
    none_kept = sym (cancels (t 0) (t 0)) ∙ ap (bit_xor (t 0)) (sym (linear.adds 0 0 linear.none linear.none)) ∙ xor_self (t 0)

    scaled : (c a : ℕ) → c < 2 → D a → D (c * a)
    scaled zero a hc ha = rw (zero-mul a) linear.none
    scaled (suc zero) a hc ha = rw (one-mul a) ha
    scaled (suc (suc c)) a hc ha = absurd (omega arith)

    pub along_in : (k a b : ℕ) → D a → D (along t k a b)
    unfolding along
    along_in zero a b h = linear.none
    along_in (suc k) a b h =
        linear.sums (b % 2 * a) (along t k (t a) (b / 2)) (scaled (b % 2) a (odd_lt b) h) (along_in k (t a) (b / 2) (linear.keeps a h))

    -- sums of a
    pub along_adds : (k b a c : ℕ) → D a → D c → along t k (bit_xor a c) b ≡ bit_xor (along t k a b) (along t k c b)
    unfolding along
    along_adds zero b a c ha hc = refl
    along_adds (suc k) b a c ha hc =
        ap (λ z. bit_xor z (along t k (t (bit_xor a c)) (b / 2))) (scale (b % 2) a c (odd_lt b))
        ∙ ap (λ z. bit_xor (bit_xor (b % 2 * a) (b % 2 * c)) (along t k z (b / 2))) (linear.adds a c ha hc)
        ∙ ap (bit_xor (bit_xor (b % 2 * a) (b % 2 * c))) (along_adds k (b / 2) (t a) (t c) (linear.keeps a ha) (linear.keeps c hc))
        ∙ crosswise (b % 2 * a) (b % 2 * c) (along t k (t a) (b / 2)) (along t k (t c) (b / 2))

    pub along_zero : (k b : ℕ) → along t k 0 b ≡ 0
    along_zero k b = sym (cancels z z) ∙ ap (bit_xor z) (sym (along_adds k b 0 0 linear.none linear.none)) ∙ xor_self z
      where
        z : ℕ
        z = along t k 0 b

    -- none or one of it, in either place
    pub along_scaled : (k c a b : ℕ) → c < 2 → along t k (c * a) b ≡ along t k a (c * b)
    along_scaled k zero a b h = ap (λ z. along t k z b) (zero-mul a) ∙ along_zero k b ∙ sym (ap (along t k a) (zero-mul b) ∙ along_none k a)
    along_scaled k (suc zero) a b h = ap (λ z. along t k z b) (one-mul a) ∙ sym (ap (along t k a) (one-mul b))
    along_scaled k (suc (suc c)) a b h = absurd (omega arith)

    scales : (c a : ℕ) → c < 2 → t (c * a) ≡ c * t a
    scales zero a h = ap t (zero-mul a) ∙ none_kept ∙ sym (zero-mul (t a))
    scales (suc zero) a h = ap t (one-mul a) ∙ sym (one-mul (t a))
    scales (suc (suc c)) a h = absurd (omega arith)

    -- t goes out of it
    pub along_step : (k a b : ℕ) → D a → along t k (t a) b ≡ t (along t k a b)
    unfolding along
    along_step zero a b h = sym none_kept
    along_step (suc k) a b h =
        ap (λ z. bit_xor z (along t k (t (t a)) (b / 2))) (sym (scales (b % 2) a (odd_lt b)))
        ∙ ap (bit_xor (t (b % 2 * a))) (along_step k (t a) (b / 2) (linear.keeps a h))
        ∙ sym (linear.adds (b % 2 * a) (along t k (t a) (b / 2)) (scaled (b % 2) a (odd_lt b) h) (along_in k (t a) (b / 2) (linear.keeps a h)))

    pub up_adds : (k a b : ℕ) → D a → D b → up t k (bit_xor a b) ≡ bit_xor (up t k a) (up t k b)
    up_adds zero a b ha hb = refl
    up_adds (suc k) a b ha hb = ap (up t k) (linear.adds a b ha hb) ∙ up_adds k (t a) (t b) (linear.keeps a ha) (linear.keeps b hb)
