-- Words of the code's own steps.
use Rattle.std.specs.Prelude.{◌≡◌, ℕ, ◌+◌, ◌*◌, ◌/◌, ◌%◌, ◌^◌, ◌≤◌, bit_and, bit_xor}
use Rattle.field.specs.declared.field.Terms.{Terms}
use Rattle.field.specs.Polynomials.{along}
use Rattle.field.specs.Fields.{mul_by, square, inverse, IsInverse}

-- A low part of four terms, x^0 and three more; two that are equal cancel.
abbrev pub low_of : Terms → ℕ
low_of t = bit_xor (bit_xor 1 (2 ^ t.first)) (bit_xor (2 ^ t.second) (2 ^ t.third))

-- The terms reach at most to half of m.
pub record Near (m : ℕ) (t : Terms) : Type 0 where
  pub first : 2 * t.first ≤ m
  pub second : 2 * t.second ≤ m
  pub third : 2 * t.third ≤ m

-- The product of h and such a low part, with nothing taken off.
abbrev pub taps : Terms → ℕ → ℕ
taps t h = bit_xor (bit_xor h (h * 2 ^ t.first)) (bit_xor (h * 2 ^ t.second) (h * 2 ^ t.third))

-- What stands above the width comes back as its product with the low part.
abbrev pub fold : ℕ → Terms → ℕ → ℕ
fold m t v = bit_xor (v % 2 ^ m) (taps t (v / 2 ^ m))

-- What a number of up to 2m bits leaves modulo the polynomial.
abbrev pub reduced : ℕ → ℕ → ℕ → ℕ
reduced m low v = mul_by m low (m + m) 1 v

-- x^2 times a, with nothing taken off.
abbrev pub quadrupled : ℕ → ℕ
quadrupled a = 4 * a

-- Zeros between the bits of a, of which it has at most 32: bit i goes to bit 2i. This is its square, unreduced.
abbrev pub spread : ℕ → ℕ
spread a = along quadrupled 32 1 a

-- A step of the code to it: a and a moved up, and of both the bits that are kept.
abbrev pub spaced : ℕ → ℕ → ℕ → ℕ
spaced by keep a = bit_and (bit_xor a (a * 2 ^ by % 2 ^ 64)) keep

-- The steps: halves apart, then quarters, and so on down to single bits.
abbrev pub spaced_out : ℕ → ℕ
spaced_out a =
    spaced 1 6148914691236517205 (spaced 2 3689348814741910323 (spaced 4 1085102592571150095 (spaced 8 71777214294589695 (spaced 16 281470681808895 a))))

-- The square of p is the inverse of a.
pub record Root (m low a p : ℕ) : Type 0 where
  pub is : square m low p ≡ inverse m low a
  pub inverts : IsInverse m low a (square m low p)
  pub again : inverse m low (square m low p) ≡ a
