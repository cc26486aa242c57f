-- The product in the field is what the unreduced product leaves modulo the polynomial, and nothing else is left.
use Rattle.std.proofs.Common.{◌≡◌, ℕ, zero, suc, ◌+◌, ◌*◌, ◌/◌, ◌%◌, ◌^◌, ◌<◌, ◌≤◌, sym, refl, ap, ◌∙◌, arith, pow_mono}
use lib.Bits.{bit_xor, xor_assoc, xor_comm, xor_self, xor_zero_r, xor_lt, xor_shifted}
use Rattle.std.proofs.lemmas.Nat.{pow_pos, shr_split, mod_below, div_below}
use Rattle.field.specs.Polynomials.{along, doubled, product, modulus, Leaves}
use Rattle.field.specs.Fields.{twice, mul_by, mul}
use Rattle.field.proofs.Sums.{crosswise, scale, double, scaled_below}
use Rattle.std.proofs.Math.Nat.{one-mul, zero-mul, pow-succ'}
use Rattle.field.proofs.Along.{Linear, odd_lt, along_adds, along_adds_r, along_none, along_more, along_power, along_step, along_zero, along_scaled}
use Rattle.field.proofs.Products.{Below, twice_lt, twice_linear, mul_by_lt, one_lt, one_mul, up_width}

-- any number
abbrev pub Any : ℕ → Type 0
Any a = 0 ≤ a

pub doubled_linear : Linear Any doubled
doubled_linear = record { none = omega arith; keeps = λ a _. omega arith; sums = λ a b _ _. omega arith; adds = λ a b _ _. double a b }

pub product_lt : (k j a b : ℕ) → a < 2 ^ j → product (suc k) a b < 2 ^ (j + k)
unfolding along
product_lt zero j a b h =
    let e : j + 0 ≡ j = omega arith in
    rw (xor_zero_r (b % 2 * a), e) (scaled_below j (b % 2) a (odd_lt b) h)
product_lt (suc k) j a b h =
    let e : suc j + k ≡ j + suc k = omega arith in
    let wider : 2 ^ j ≤ 2 ^ (j + suc k) = pow_mono (omega arith) in
    let below = product_lt k (suc j) (doubled a) (b / 2) (omega (arith, pow-succ' 2 j)) in
    let rest = rw e at below in
    xor_lt (j + suc k) (b % 2 * a) (product (suc k) (doubled a) (b / 2)) (omega (arith, wider, scaled_below j (b % 2) a (odd_lt b) h)) rest

pub product_below : (k j a b : ℕ) → a < 2 ^ j → product k a b < 2 ^ (j + k)
unfolding along
product_below zero j a b h = pow_pos (j + 0)
product_below (suc k) j a b h =
    let wider : 2 ^ (j + k) ≤ 2 ^ (j + suc k) = pow_mono (omega arith) in
    omega (arith, wider, product_lt k j a b h)

module _ (m low : ℕ) (small : low < 2 ^ m) (wide : 0 < m) where
  -- what the lowest k bits of u leave
  abbrev pub rest : ℕ → ℕ → ℕ
  rest k u = mul_by m low k 1 u

  one : 1 < 2 ^ m
  one = one_lt m low small wide

  pub rest_adds : (k u v : ℕ) → rest k (bit_xor u v) ≡ bit_xor (rest k u) (rest k v)
  rest_adds k u v = along_adds_r (twice m low) k 1 u v

  pub rest_none : (k : ℕ) → rest k 0 ≡ 0
  rest_none k = along_none (twice m low) k 1

  pub rest_more : (k j u : ℕ) → u < 2 ^ k → rest (k + j) u ≡ rest k u
  rest_more k j u h = along_more (twice m low) k j 1 u h

  rest_scaled : (k c u : ℕ) → c < 2 → rest k (c * u) ≡ c * rest k u
  rest_scaled k zero u h = ap (rest k) (zero-mul u) ∙ rest_none k ∙ sym (zero-mul (rest k u))
  rest_scaled k (suc zero) u h = ap (rest k) (one-mul u) ∙ sym (one-mul (rest k u))
  rest_scaled k (suc (suc c)) u h = absurd (omega arith)

  pub rest_doubled : (k u : ℕ) → rest (suc k) (2 * u) ≡ twice m low (rest k u)
  unfolding along
  rest_doubled k u =
      let even : 2 * u % 2 ≡ 0 = omega arith in
      let half : 2 * u / 2 ≡ u = omega arith in
      ap (λ z. bit_xor (z * 1) (mul_by m low k (twice m low 1) (2 * u / 2))) even
      ∙ ap (mul_by m low k (twice m low 1)) half
      ∙ along_step (twice m low) (Below m) (twice_linear m low small) k 1 u one

  pub rest_small : (j u : ℕ) → u < 2 ^ m → rest (m + j) u ≡ u
  rest_small j u h = rest_more m j u h ∙ one_mul m low small wide u h

  -- an unreduced product leaves the product of what its first factor leaves
  pub rest_product : (k j a b : ℕ) → a < 2 ^ j → rest (j + k) (product k a b) ≡ mul_by m low k (rest j a) b
  unfolding along
  rest_product zero j a b h = rest_none (j + 0)
  rest_product (suc k) j a b h =
      let e : j + suc k ≡ suc j + k = omega arith in
      rest_adds (j + suc k) (b % 2 * a) (product k (doubled a) (b / 2))
      ∙ ap (λ z. bit_xor z (rest (j + suc k) (product k (doubled a) (b / 2)))) (rest_more j (suc k) (b % 2 * a) (scaled_below j (b % 2) a (odd_lt b) h) ∙ rest_scaled j (b % 2) a (odd_lt b))
      ∙ ap (λ z. bit_xor (b % 2 * rest j a) (rest z (product k (doubled a) (b / 2)))) e
      ∙ ap (bit_xor (b % 2 * rest j a)) (rest_product k (suc j) (doubled a) (b / 2) (omega (arith, pow-succ' 2 j)) ∙ ap (λ z. mul_by m low k z (b / 2)) (rest_doubled j a))

  rest_top : rest (suc m) (2 ^ m) ≡ low
  rest_top = along_power (twice m low) (suc m) m 1 (omega arith) ∙ up_width m low small wide

  rest_modulus : rest (suc m) (modulus m low) ≡ 0
  rest_modulus =
      let apart : 2 ^ m + low ≡ bit_xor (1 * 2 ^ m) low = sym (xor_shifted 1 m low small ∙ ap (λ z. z + low) (one-mul (2 ^ m))) in
      let e : suc m ≡ m + 1 = omega arith in
      ap (rest (suc m)) (apart ∙ ap (λ z. bit_xor z low) (one-mul (2 ^ m)))
      ∙ rest_adds (suc m) (2 ^ m) low
      ∙ ap (λ z. bit_xor z (rest (suc m) low)) rest_top
      ∙ ap (bit_xor low) (ap (λ z. rest z low) e ∙ rest_small 1 low small)
      ∙ xor_self low

  modulus_lt : modulus m low < 2 ^ suc m
  modulus_lt = omega (arith, pow-succ' 2 m, small)

  -- multiples of the polynomial leave nothing
  rest_multiple : (k q : ℕ) → rest (suc m + k) (product k (modulus m low) q) ≡ 0
  rest_multiple k q = rest_product k (suc m) (modulus m low) q modulus_lt ∙ ap (λ z. mul_by m low k z q) rest_modulus ∙ along_zero (twice m low) (Below m) (twice_linear m low small) k q

  -- what is left is settled
  pub left_is : (u r : ℕ) → Leaves m low u r → rest (suc m + m) u ≡ r
  left_is u r l =
      let e : suc m + m ≡ m + suc m = omega arith in
      ap (rest (suc m + m)) l.is
      ∙ rest_adds (suc m + m) (product m (modulus m low) l.times) r
      ∙ ap (λ z. bit_xor z (rest (suc m + m) r)) (rest_multiple m l.times)
      ∙ ap (λ z. rest z r) e
      ∙ rest_small (suc m) r l.small

  pub rest_own : (u : ℕ) → u < 2 ^ m → rest m u ≡ u
  rest_own u h = one_mul m low small wide u h

  pub product_left : (a b r : ℕ) → a < 2 ^ m → Leaves m low (product m a b) r → r ≡ mul m low a b
  product_left a b r h l =
      let e : suc m + m ≡ m + m + 1 = omega arith in
      sym (left_is (product m a b) r l)
      ∙ ap (λ z. rest z (product m a b)) e
      ∙ rest_more (m + m) 1 (product m a b) (product_below m m a b h)
      ∙ rest_product m m a b h
      ∙ ap (λ z. mul m low z b) (rest_own a h)

  -- x times a is twice a, and the polynomial where a bit left the width
  carried : (a : ℕ) → a < 2 ^ m → 2 * a ≡ bit_xor (twice m low a) (2 * a / 2 ^ m * modulus m low)
  unfolding twice
  carried a h =
      let c = 2 * a / 2 ^ m in
      let r = 2 * a % 2 ^ m in
      let hc : c < 2 = div_below (2 * a) (2 ^ m) 2 (pow_pos m) (omega arith) in
      let apart : 2 ^ m + low ≡ bit_xor (2 ^ m) low = sym (ap (λ z. bit_xor z low) (sym (one-mul (2 ^ m))) ∙ xor_shifted 1 m low small ∙ ap (λ z. z + low) (one-mul (2 ^ m))) in
      sym (ap (λ z. bit_xor (bit_xor r (c * low)) (c * z)) apart
      ∙ ap (bit_xor (bit_xor r (c * low))) (scale c (2 ^ m) low hc)
      ∙ crosswise r (c * low) (c * 2 ^ m) (c * low)
      ∙ ap (bit_xor (bit_xor r (c * 2 ^ m))) (xor_self (c * low))
      ∙ xor_zero_r (bit_xor r (c * 2 ^ m))
      ∙ xor_comm r (c * 2 ^ m)
      ∙ xor_shifted c m r (mod_below (2 * a) (2 ^ m) (pow_pos m))
      ∙ shr_split (2 * a) m)

  -- how often the polynomial goes into a product of k bits
  record Goes (k a b : ℕ) : Type 0 where
    times : ℕ
    few : times < 2 ^ k
    is : product k a b ≡ bit_xor (product k (modulus m low) times) (mul_by m low k a b)

  goes : (k a b : ℕ) → a < 2 ^ m → b < 2 ^ k → Goes k a b
  unfolding along
  goes zero a b ha hb = record { times = 0; few = omega arith; is = refl }
  goes (suc k) a b ha hb = step (goes k (twice m low a) (b / 2) (twice_lt m low small a ha) (omega (arith, pow-succ' 2 k)))
    where
      c : ℕ
      c = 2 * a / 2 ^ m

      hc : c < 2
      hc = div_below (2 * a) (2 ^ m) 2 (pow_pos m) (omega arith)

      step : Goes k (twice m low a) (b / 2) → Goes (suc k) a b
      step g =
          record {
            times = q;
            few = omega (arith, pow-succ' 2 k, below);
            is =
                ap (λ z. bit_xor (b % 2 * a) (product k z (b / 2))) (carried a ha)
                ∙ ap (bit_xor (b % 2 * a)) (along_adds doubled Any doubled_linear k (b / 2) (twice m low a) (c * modulus m low) (omega arith) (omega arith)
                ∙ ap (λ z. bit_xor z (product k (c * modulus m low) (b / 2))) g.is
                ∙ ap (bit_xor (bit_xor (product k (modulus m low) g.times) rest_of)) (along_scaled doubled Any doubled_linear k c (modulus m low) (b / 2) hc)
                ∙ swap (product k (modulus m low) g.times) rest_of (product k (modulus m low) (c * (b / 2)))
                ∙ ap (λ z. bit_xor z rest_of) (sym (along_adds_r doubled k (modulus m low) g.times (c * (b / 2)))))
                ∙ front (b % 2 * a) (product k (modulus m low) q) rest_of
                ∙ ap (λ z. bit_xor z (bit_xor (b % 2 * a) rest_of)) wider;
          }
        where
          q : ℕ
          q = bit_xor g.times (c * (b / 2))

          below : q < 2 ^ k
          below = xor_lt k g.times (c * (b / 2)) g.few (scaled_below k c (b / 2) hc (omega (arith, pow-succ' 2 k)))

          rest_of : ℕ
          rest_of = mul_by m low k (twice m low a) (b / 2)

          swap : (x y z : ℕ) → bit_xor (bit_xor x y) z ≡ bit_xor (bit_xor x z) y
          swap x y z = xor_assoc x y z ∙ ap (bit_xor x) (xor_comm y z) ∙ sym (xor_assoc x z y)

          front : (x y z : ℕ) → bit_xor x (bit_xor y z) ≡ bit_xor y (bit_xor x z)
          front x y z = sym (xor_assoc x y z) ∙ ap (λ w. bit_xor w z) (xor_comm x y) ∙ xor_assoc y x z

          wider : product k (modulus m low) q ≡ product (suc k) (modulus m low) q
          wider = let e : suc k ≡ k + 1 = omega arith in sym (ap (λ z. product z (modulus m low) q) e ∙ along_more doubled k 1 (modulus m low) q below)

  pub product_leaves : (a b : ℕ) → a < 2 ^ m → b < 2 ^ m → Leaves m low (product m a b) (mul m low a b)
  product_leaves a b ha hb = go (goes m a b ha hb)
    where
      go : Goes m a b → Leaves m low (product m a b) (mul m low a b)
      go g = record { small = mul_by_lt m low small m a b ha; times = g.times; few = g.few; is = g.is }
