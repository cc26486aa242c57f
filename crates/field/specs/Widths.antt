-- The box widths that have a field here, each with its low part: width 5 has 05h, for x^5 + x^2 + 1.
use Rattle.std.specs.Prelude.{ℕ, Bool, true, false, ◌&&◌, List, [], ◌∷◌, ◌==◌}
use Rattle.field.specs.Fields.{good}

-- 05h for 5; 03h for 6, 7 and 9; 1Bh for 8; 09h for 10, 12 and 25; 21h for 14.
abbrev pub low_parts : List (ℕ × ℕ)
low_parts = (5, 5) ∷ (6, 3) ∷ (7, 3) ∷ (8, 27) ∷ (9, 3) ∷ (10, 9) ∷ (12, 9) ∷ (14, 33) ∷ (25, 9) ∷ []

-- The low part that a table gives a width, and 0 for a width that it has not.
abbrev pub low_in : List (ℕ × ℕ) → ℕ → ℕ
low_in [] m = 0
low_in (p ∷ ps) m = elim (m == p.0) [ true ↦ p.1 | false ↦ low_in ps m ]

abbrev pub low_part : ℕ → ℕ
low_part m = low_in low_parts m

-- each pair of a table passes the test
abbrev pub all_good : List (ℕ × ℕ) → Bool
all_good [] = true
all_good (p ∷ ps) = good p.0 p.1 && all_good ps
