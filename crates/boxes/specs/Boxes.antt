-- What a box does to its value, and a row of boxes to a number.
use Rattle.std.specs.Prelude.{◌≡◌, ℕ, ◌+◌, ◌*◌, ◌/◌, ◌%◌, ◌^◌, ◌<◌, List, [], ◌∷◌, bit_xor}
use Rattle.bits.specs.Words.{wrapped_sum, wrapped_difference, turned_left, turned_right}
use Rattle.field.specs.Fields.{inverse}
use Rattle.field.specs.Widths.{low_part}

-- A Flex box is the inverse in the field of its width m, under which 0 stays 0.
unfoldable pub flex : ℕ → ℕ → ℕ
flex m x = inverse m (low_part m) x

-- A CPA box has two random parts: x XOR r0 is inverted, r1 is added modulo 2^m, and the m bits are turned left by 2.
unfoldable pub cpa : ℕ → ℕ → ℕ → ℕ → ℕ
cpa m r0 r1 x = turned_left m 2 (wrapped_sum m (flex m (bit_xor x r0)) r1)

-- Its way back, step by step.
unfoldable pub cpa_back : ℕ → ℕ → ℕ → ℕ → ℕ
cpa_back m r0 r1 y = bit_xor (flex m (wrapped_difference m (turned_right m 2 y) r1)) r0

-- Two maps of m bits that undo each other.
pub record Undone (m : ℕ) (f g : ℕ → ℕ) : Type 0 where
  pub within : (x : ℕ) → x < 2 ^ m → f x < 2 ^ m
  pub lands : (y : ℕ) → y < 2 ^ m → g y < 2 ^ m
  pub undoes : (x : ℕ) → x < 2 ^ m → g (f x) ≡ x
  pub redoes : (y : ℕ) → y < 2 ^ m → f (g y) ≡ y

-- A row of boxes of widths ms from place p on, the lowest first: each box takes its bits of x, and its value goes back to
-- their place.
unfoldable pub layer : (ℕ → ℕ → ℕ → ℕ) → ℕ → List ℕ → ℕ → ℕ
layer f p [] x = 0
layer f p (m ∷ ms) x = layer f (p + m) ms (x / 2 ^ m) * 2 ^ m + f p m (x % 2 ^ m)

-- The bits of all boxes.
abbrev pub bits_of : List ℕ → ℕ
bits_of [] = 0
bits_of (m ∷ ms) = m + bits_of ms

-- The bits of r that stand at a box.
abbrev pub cut : ℕ → ℕ → ℕ → ℕ
cut r p m = r / 2 ^ p % 2 ^ m

-- The boxes of the two flows, by place and width.
abbrev pub flex_box : ℕ → ℕ → ℕ → ℕ
flex_box p m x = flex m x

abbrev pub cpa_box : ℕ → ℕ → ℕ → ℕ → ℕ → ℕ
cpa_box r0 r1 p m x = cpa m (cut r0 p m) (cut r1 p m) x

abbrev pub cpa_box_back : ℕ → ℕ → ℕ → ℕ → ℕ → ℕ
cpa_box_back r0 r1 p m y = cpa_back m (cut r0 p m) (cut r1 p m) y

-- Two kinds of box that undo each other, wherever they stand and whatever width with a field they have.
abbrev pub Boxed : (ℕ → ℕ → ℕ → ℕ) → (ℕ → ℕ → ℕ → ℕ) → Type 0
Boxed f g = (p m : ℕ) → 0 < low_part m → Undone m (f p m) (g p m)

-- The boxes of widths ms make up n bits, and a row of them is undone by a row of them: Flex boxes by themselves, CPA boxes
-- with any random parts by their ways back.
pub record Rows (n : ℕ) (ms : List ℕ) : Type 0 where
  pub whole : bits_of ms ≡ n
  pub flex : Undone n (layer flex_box 0 ms) (layer flex_box 0 ms)
  pub cpa : (r0 r1 : ℕ) → Undone n (layer (cpa_box r0 r1) 0 ms) (layer (cpa_box_back r0 r1) 0 ms)
