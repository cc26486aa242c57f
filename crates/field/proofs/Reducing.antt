-- Two folds take a number of up to 2m bits to what it leaves modulo the polynomial.
use Rattle.std.proofs.Common.{◌≡◌, ℕ, zero, suc, ◌+◌, ◌-◌, ◌*◌, ◌/◌, ◌%◌, ◌^◌, ◌<◌, ◌≤◌, sym, ap, ◌∙◌, mul_left_comm, arith, pow_mono}
use lib.Bits.{bit_xor, xor_comm, xor_lt, xor_shifted}
use Rattle.std.proofs.lemmas.Nat.{pow_pos, shr_split, mod_below, shr_below, shl_below}
use Rattle.field.specs.declared.field.Terms.{Terms}
use Rattle.field.specs.Polynomials.{product}
use Rattle.field.specs.Fields.{twice, mul}
use Rattle.field.specs.Code.{low_of, Near, taps, fold, reduced}
use Rattle.std.proofs.Math.Nat.{pow-succ'}
use Rattle.field.proofs.Along.{up, up_last, along_adds_r, along_power}
use Rattle.field.proofs.Products.{mul_low, mul_one, mul_by_lt, one_lt}
use Rattle.field.proofs.Remainders.{rest, rest_adds, rest_doubled, rest_small, rest_own, rest_product}

pub shifted_below : (k s d h a : ℕ) → h < 2 ^ s → a ≤ d → s + d ≤ k → h * 2 ^ a < 2 ^ k
shifted_below k s d h a hh ha hk =
    let wider : 2 ^ (s + a) ≤ 2 ^ k = pow_mono (omega arith) in
    omega (arith, wider, shl_below h s a hh)

-- the terms of t reach to d at most
abbrev pub Within : ℕ → Terms → Type 0
Within d t = (t.first ≤ d) × (t.second ≤ d) × (t.third ≤ d)

pub fold_lt : (m : ℕ) (t : Terms) (v s d k : ℕ) → v < 2 ^ (s + m) → Within d t → m ≤ k → s + d ≤ k → fold m t v < 2 ^ k
fold_lt m t v s d k hv within hm hk =
    let h = v / 2 ^ m in
    let hh : h < 2 ^ s = shr_below v s m hv in
    let own : 2 ^ s ≤ 2 ^ k = pow_mono (omega arith) in
    let wide : 2 ^ m ≤ 2 ^ k = pow_mono hm in
    xor_lt k (v % 2 ^ m) (taps t h) (omega (arith, wide, mod_below v (2 ^ m) (pow_pos m)))
    (xor_lt k (bit_xor h (h * 2 ^ t.first)) (bit_xor (h * 2 ^ t.second) (h * 2 ^ t.third))
    (xor_lt k h (h * 2 ^ t.first) (omega (arith, own, hh)) (shifted_below k s d h t.first hh within.0 hk))
    (xor_lt k (h * 2 ^ t.second) (h * 2 ^ t.third) (shifted_below k s d h t.second hh within.1 hk) (shifted_below k s d h t.third hh within.2 hk)))

module _ (m low : ℕ) (small : low < 2 ^ m) (wide : 0 < m) where
  pub product_reduces : (a b : ℕ) → a < 2 ^ m → reduced m low (product m a b) ≡ mul m low a b
  product_reduces a b h = rest_product m low small wide m m a b h ∙ ap (λ z. mul m low z b) (rest_own m low small wide a h)

  pub reduced_lt : (v : ℕ) → reduced m low v < 2 ^ m
  reduced_lt v = mul_by_lt m low small (m + m) 1 v (one_lt m low small wide)

  -- what a number moved up by j places leaves
  rest_moved : (j k h : ℕ) → rest m low small wide (k + j) (h * 2 ^ j) ≡ up (twice m low) j (rest m low small wide k h)
  rest_moved zero k h =
      let e : k + 0 ≡ k = omega arith in
      let f : h * 2 ^ 0 ≡ h = omega arith in
      ap (λ z. rest m low small wide z (h * 2 ^ 0)) e ∙ ap (rest m low small wide k) f
  rest_moved (suc j) k h =
      let e : k + suc j ≡ suc (k + j) = omega arith in
      let f : h * 2 ^ suc j ≡ 2 * (h * 2 ^ j) = ap (λ z. h * z) (pow-succ' 2 j) ∙ mul_left_comm h 2 (2 ^ j) in
      ap (λ z. rest m low small wide z (h * 2 ^ suc j)) e
      ∙ ap (rest m low small wide (suc (k + j))) f
      ∙ rest_doubled m low small wide (k + j) (h * 2 ^ j)
      ∙ ap (twice m low) (rest_moved j k h)
      ∙ sym (up_last (twice m low) j (rest m low small wide k h))

  rest_moved_own : (a h : ℕ) → a ≤ m → h < 2 ^ m → rest m low small wide (m + m) (h * 2 ^ a) ≡ up (twice m low) a h
  rest_moved_own a h ha hh =
      let e : m + m ≡ m + (m - a) + a = omega arith in
      ap (λ z. rest m low small wide z (h * 2 ^ a)) e ∙ rest_moved a (m + (m - a)) h ∙ ap (up (twice m low) a) (rest_small m low small wide (m - a) h hh)

  module _ (t : Terms) (spelt : low ≡ low_of t) (near : Near m t) where
    up_spelt : (h : ℕ) → h < 2 ^ m → up (twice m low) m h ≡ bit_xor (bit_xor h (up (twice m low) t.first h)) (bit_xor (up (twice m low) t.second h) (up (twice m low) t.third h))
    up_spelt h hh =
        sym (mul_low m low small wide h hh)
        ∙ ap (mul m low h) spelt
        ∙ along_adds_r (twice m low) m h (bit_xor 1 (2 ^ t.first)) (bit_xor (2 ^ t.second) (2 ^ t.third))
        ∙ ap (λ z. bit_xor z (mul m low h (bit_xor (2 ^ t.second) (2 ^ t.third)))) (along_adds_r (twice m low) m h 1 (2 ^ t.first) ∙ ap (λ z. bit_xor z (mul m low h (2 ^ t.first))) (mul_one m low small wide h) ∙ ap (bit_xor h) (power t.first near.first))
        ∙ ap (bit_xor (bit_xor h (up (twice m low) t.first h))) (along_adds_r (twice m low) m h (2 ^ t.second) (2 ^ t.third) ∙ ap (λ z. bit_xor z (mul m low h (2 ^ t.third))) (power t.second near.second) ∙ ap (bit_xor (up (twice m low) t.second h)) (power t.third near.third))
      where
        power : (i : ℕ) → 2 * i ≤ m → mul m low h (2 ^ i) ≡ up (twice m low) i h
        power i hi = along_power (twice m low) m i h (omega (arith, wide))

    rest_taps : (h : ℕ) → h < 2 ^ m → rest m low small wide (m + m) (taps t h) ≡ rest m low small wide (m + m) (h * 2 ^ m)
    rest_taps h hh =
        rest_adds m low small wide (m + m) (bit_xor h (h * 2 ^ t.first)) (bit_xor (h * 2 ^ t.second) (h * 2 ^ t.third))
        ∙ ap (λ z. bit_xor z (rest m low small wide (m + m) (bit_xor (h * 2 ^ t.second) (h * 2 ^ t.third)))) (rest_adds m low small wide (m + m) h (h * 2 ^ t.first)
        ∙ ap (λ z. bit_xor z (rest m low small wide (m + m) (h * 2 ^ t.first))) (rest_small m low small wide m h hh) ∙ ap (bit_xor h) (moved t.first near.first))
        ∙ ap (bit_xor (bit_xor h (up (twice m low) t.first h))) (rest_adds m low small wide (m + m) (h * 2 ^ t.second) (h * 2 ^ t.third)
        ∙ ap (λ z. bit_xor z (rest m low small wide (m + m) (h * 2 ^ t.third))) (moved t.second near.second) ∙ ap (bit_xor (up (twice m low) t.second h)) (moved t.third near.third))
        ∙ sym (rest_moved_own m h (omega arith) hh ∙ up_spelt h hh)
      where
        moved : (i : ℕ) → 2 * i ≤ m → rest m low small wide (m + m) (h * 2 ^ i) ≡ up (twice m low) i h
        moved i hi = rest_moved_own i h (omega arith) hh

    rest_fold : (v : ℕ) → v < 2 ^ (m + m) → rest m low small wide (m + m) (fold m t v) ≡ rest m low small wide (m + m) v
    rest_fold v hv =
        rest_adds m low small wide (m + m) (v % 2 ^ m) (taps t (v / 2 ^ m))
        ∙ ap (bit_xor (rest m low small wide (m + m) (v % 2 ^ m))) (rest_taps (v / 2 ^ m) (shr_below v m m hv))
        ∙ xor_comm (rest m low small wide (m + m) (v % 2 ^ m)) (rest m low small wide (m + m) (v / 2 ^ m * 2 ^ m))
        ∙ sym (rest_adds m low small wide (m + m) (v / 2 ^ m * 2 ^ m) (v % 2 ^ m))
        ∙ ap (rest m low small wide (m + m)) (xor_shifted (v / 2 ^ m) m (v % 2 ^ m) (mod_below v (2 ^ m) (pow_pos m)) ∙ shr_split v m)

    within : Within (m / 2) t
    within = (omega (arith, near.first), omega (arith, near.second), omega (arith, near.third))

    pub folded_lt : (v : ℕ) → v < 2 ^ (m + m) → fold m t v < 2 ^ (m / 2 + m)
    folded_lt v hv = fold_lt m t v m (m / 2) (m / 2 + m) hv within (omega arith) (omega arith)

    pub folded_small : (v : ℕ) → v < 2 ^ (m + m) → fold m t v < 2 ^ (m + m)
    folded_small v hv = fold_lt m t v m (m / 2) (m + m) hv within (omega arith) (omega arith)

    pub two_folds : (v : ℕ) → v < 2 ^ (m + m) → fold m t (fold m t v) ≡ reduced m low v
    two_folds v hv =
        let w = fold m t v in
        let hr = fold_lt m t w (m / 2) (m / 2) m (folded_lt v hv) within (omega arith) (omega arith) in
        sym (rest_small m low small wide m (fold m t w) hr) ∙ rest_fold w (folded_small v hv) ∙ rest_fold v hv
