-- The boxes of the widths from 24 on, as the code has them.
use Rattle.std.specs.Prelude.{ℕ, List, [], ◌∷◌}
use Rattle.boxes.specs.declared.shape.Shape.{Shape}

-- the width of all boxes but the last, the last width, and the count
abbrev pub row : ℕ → ℕ → ℕ → Shape
row w l c = record { wide = w; last = l; count = c }

abbrev pub table : List Shape
table =
    row 8 8 3
    ∷ row 25 25 1
    ∷ row 8 10 3
    ∷ row 9 9 3
    ∷ row 14 14 2
    ∷ row 8 5 4
    ∷ row 10 10 3
    ∷ row 8 7 4
    ∷ row 8 8 4
    ∷ row 8 9 4
    ∷ row 8 10 4
    ∷ row 9 8 4
    ∷ row 9 9 4
    ∷ row 8 5 5
    ∷ row 8 6 5
    ∷ row 8 7 5
    ∷ row 8 8 5
    ∷ row 8 9 5
    ∷ row 14 14 3
    ∷ row 9 7 5
    ∷ row 8 12 5
    ∷ row 9 9 5
    ∷ row 8 6 6
    ∷ row 8 7 6
    ∷ row 8 8 6
    ∷ row 8 9 6
    ∷ row 10 10 5
    ∷ row 9 6 6
    ∷ row 8 12 6
    ∷ row 9 8 6
    ∷ row 9 9 6
    ∷ row 8 7 7
    ∷ row 8 8 7
    ∷ row 8 9 7
    ∷ row 8 10 7
    ∷ row 9 14 6
    ∷ row 10 10 6
    ∷ row 9 7 7
    ∷ row 8 14 7
    ∷ row 9 9 7
    ∷ row 8 8 8
    ∷ []
