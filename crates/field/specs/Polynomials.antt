-- Polynomials over the field of two elements, written as numbers: bit i stands for x^i, so a sum is an exclusive or.
use Rattle.std.specs.Prelude.{◌≡◌, ℕ, zero, suc, ◌+◌, ◌*◌, ◌/◌, ◌%◌, ◌^◌, ◌<◌, bit_xor}

-- The sum of a, t a, t (t a) and so on, k of them, over those of which b has the bit set.
unfoldable pub along : (ℕ → ℕ) → ℕ → ℕ → ℕ → ℕ
along t zero a b = 0
along t (suc k) a b = bit_xor (b % 2 * a) (along t k (t a) (b / 2))

-- x times a, with nothing taken off.
abbrev pub doubled : ℕ → ℕ
doubled a = 2 * a

-- The product of a and the lowest k bits of b, with nothing taken off: the sum of x^i·a over the set bits i of b.
abbrev pub product : ℕ → ℕ → ℕ → ℕ
product k a b = along doubled k a b

-- x^m plus a low part below it: what a field of m bits divides by.
abbrev pub modulus : ℕ → ℕ → ℕ
modulus m low = 2 ^ m + low

-- u leaves r modulo the polynomial: r has m bits, and u is some multiple of the polynomial plus r.
pub record Leaves (m low u r : ℕ) : Type 0 where
  pub small : r < 2 ^ m
  pub times : ℕ
  pub few : times < 2 ^ m
  pub is : u ≡ bit_xor (product m (modulus m low) times) r
