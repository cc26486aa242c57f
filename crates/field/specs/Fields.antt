-- The binary fields of the box widths: m bits, modulo x^m plus a low part.
use Rattle.std.specs.Prelude.{◌≡◌, ℕ, zero, suc, ◌-◌, ◌*◌, ◌/◌, ◌%◌, ◌^◌, ◌<◌, Bool, true, false, ◌&&◌, ◌||◌, ◌==◌, bit_xor, nat_le, nat_lt}
use Rattle.field.specs.Polynomials.{along, product, Leaves}

-- x times a: one place up, and where a bit leaves the width, the low part in its stead.
unfoldable pub twice : ℕ → ℕ → ℕ → ℕ
twice m low a = bit_xor (2 * a % 2 ^ m) (2 * a / 2 ^ m * low)

-- a times the lowest k bits of b, reduced at each place.
abbrev pub mul_by : ℕ → ℕ → ℕ → ℕ → ℕ → ℕ
mul_by m low k a b = along (twice m low) k a b

-- The product in the field.
abbrev pub mul : ℕ → ℕ → ℕ → ℕ → ℕ
mul m low a b = mul_by m low m a b

abbrev pub square : ℕ → ℕ → ℕ → ℕ
square m low a = mul m low a a

-- a squared k times: a^(2^k).
unfoldable pub squared : ℕ → ℕ → ℕ → ℕ → ℕ
squared m low zero a = a
squared m low (suc k) a = squared m low k (square m low a)

-- a^(2^k - 1), whose exponent is k ones.
unfoldable pub ones : ℕ → ℕ → ℕ → ℕ → ℕ
ones m low zero a = 1
ones m low (suc k) a = mul m low (square m low (ones m low k a)) a

-- a^(2^m - 2): the inverse of a, and 0 for 0.
unfoldable pub inverse : ℕ → ℕ → ℕ → ℕ
inverse m low a = square m low (ones m low (m - 1) a)

-- What an inverse is: 0 for 0, and otherwise the one number of m bits whose product with a leaves 1 modulo the
-- polynomial.
pub record IsInverse (m low a b : ℕ) : Type 0 where
  pub small : b < 2 ^ m
  pub none : a ≡ 0 → b ≡ 0
  pub leaves : 0 < a → Leaves m low (product m a b) 1
  pub only : 0 < a → (c : ℕ) → c < 2 ^ m → Leaves m low (product m a c) 1 → c ≡ b

-- The sum of a, a^2, a^4 and so on, k of them.
unfoldable pub trace : ℕ → ℕ → ℕ → ℕ → ℕ
trace m low zero a = 0
trace m low (suc k) a = bit_xor a (trace m low k (square m low a))

-- each of x^0 up to x^(k-1) has trace 0 or 1
unfoldable pub traces_small : ℕ → ℕ → ℕ → Bool
traces_small m low zero = true
traces_small m low (suc k) = nat_lt (trace m low m (2 ^ k)) 2 && traces_small m low k

-- one of x^0 up to x^(k-1) has trace 1
unfoldable pub some_trace : ℕ → ℕ → ℕ → Bool
some_trace m low zero = false
some_trace m low (suc k) = trace m low m (2 ^ k) == 1 || some_trace m low k

-- The test that makes m bits modulo x^m plus `low` a field: x squared m times is x again, and the trace is 0 or 1 and not
-- always 0.
unfoldable pub good : ℕ → ℕ → Bool
good m low = nat_le 2 m && (nat_lt low (2 ^ m) && (squared m low m 2 == 2 && (traces_small m low m && some_trace m low m)))
