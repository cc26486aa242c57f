-- The boxes of a width, by the search that the cipher's authors give.
use Rattle.std.specs.Prelude.{◌≡◌, ℕ, zero, suc, ◌+◌, ◌-◌, ◌*◌, ◌/◌, ◌%◌, ◌<◌, ◌≤◌, Bool, true, false, not, ◌&&◌, ◌||◌, List, [], ◌∷◌, replicate, Some, None, Option, ◌==◌, nat_le, nat_lt}
use Rattle.bits.specs.Orders.{among}
use Rattle.field.specs.Widths.{low_part}
use Rattle.boxes.specs.declared.shape.Shape.{Shape}

-- The widths that a box may have.
abbrev pub permitted_widths : List ℕ
permitted_widths =
    5 ∷ 6 ∷ 7 ∷ 8 ∷ 9 ∷ 10 ∷ 12 ∷ 14 ∷ 15 ∷ 16 ∷ 18 ∷ 20 ∷ 21 ∷ 24 ∷ 25 ∷ 27 ∷ 28 ∷ 30 ∷ 32 ∷ 33 ∷ 34 ∷ 36 ∷ 38 ∷ 39 ∷ 40 ∷ 42 ∷ 44 ∷ 45 ∷ 48 ∷ 49 ∷ 50 ∷ 52 ∷ 54
    ∷ 55 ∷ 56 ∷ 60 ∷ 64 ∷ []

unfoldable pub permitted : ℕ → Bool
permitted w = among w permitted_widths

-- A way to cut a width: even where all boxes are of one width.
pub record Candidate : Type 0 where
  pub even : Bool
  pub shape : Shape

-- What width l gives for n, with b boxes rounded up. Where l does not divide n, the last box has what is left, r, or that
-- and one box more.
unfoldable pub candidate : ℕ → ℕ → Option Candidate
candidate n l =
    let b = (n + (l - 1)) / l in
    let r = n - l * (b - 1) in
    elim (permitted l && nat_le b l) [
      | false ↦ None
      | true ↦ elim (n % l == 0) [
        | true ↦ Some (record { even = true; shape = record { wide = l; last = l; count = b } })
        | false ↦ elim (permitted r && nat_le b r) [
          | true ↦ Some (record { even = false; shape = record { wide = l; last = r; count = b } })
          | false ↦ elim (permitted (r + l) && nat_le (b - 1) (r + l)) [
            | true ↦ Some (record { even = false; shape = record { wide = l; last = r + l; count = b - 1 } })
            | false ↦ None
          ]
        ]
      ]
    ]

-- How far a width is from the number of boxes.
abbrev pub unlike : Shape → ℕ
unlike s = (s.wide - s.count) + (s.count - s.wide)

-- Even before uneven; of one sort the least unlike, and on a tie the first, which is the smaller width.
unfoldable pub better : Candidate → Candidate → Candidate
better old new =
    elim ((new.even && not old.even) || (not (old.even && not new.even) && nat_lt (unlike new.shape) (unlike old.shape))) [ true ↦ new | false ↦ old ]

unfoldable pub choose : Option Candidate → Option Candidate → Option Candidate
choose None new = new
choose (Some old) None = Some old
choose (Some old) (Some new) = Some (better old new)

-- The best of k widths from l on.
unfoldable pub best : ℕ → ℕ → ℕ → Option Candidate → Option Candidate
best n zero l found = found
best n (suc k) l found = best n k (suc l) (choose found (candidate n l))

-- The widths tried are those from 8 to 28.
unfoldable pub searched : ℕ → Option Candidate
searched n = best n 21 8 None

abbrev pub shape_of : Option Candidate → Shape
shape_of None = record { wide = 0; last = 0; count = 0 }
shape_of (Some c) = c.shape

unfoldable pub layout : ℕ → Shape
layout n = shape_of (searched n)

-- The widths of the boxes, the lowest first.
abbrev pub widths : Shape → List ℕ
widths s = s.last ∷ replicate (s.count - 1) s.wide

-- What every layout has: the boxes add up to the width, and each has a field.
pub record Cut (n : ℕ) (s : Shape) : Type 0 where
  pub some : 1 ≤ s.count
  pub whole : s.last + (s.count - 1) * s.wide ≡ n
  pub last : 0 < low_part s.last
  pub wide : 1 < s.count → 0 < low_part s.wide
