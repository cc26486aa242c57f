-- Strings of bits, as a key is one: each bit by its place, from 0 on.
use Rattle.std.specs.Prelude.{ℕ, zero, suc, ◌+◌, ◌*◌, ◌/◌, ◌%◌, List, slice_index}
use Rattle.bits.specs.Bits.{bit}

-- Bit i of a string of bytes is bit i mod 8 of byte i div 8; behind the last byte all bits are 0.
abbrev pub byte_bit : List ℕ → ℕ → ℕ
byte_bit bytes i = bit (slice_index bytes (i / 8)) (i % 8)

-- The number of n bits that stands in a string from place p on, its lowest bit first.
unfoldable pub number_at : (ℕ → ℕ) → ℕ → ℕ → ℕ
number_at s p zero = 0
number_at s p (suc n) = s p + 2 * number_at s (p + 1) n
