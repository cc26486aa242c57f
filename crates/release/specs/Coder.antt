-- What coding one number and a row of numbers answers.
use Rattle.std.specs.Prelude.{ℕ, List, Ok, Result, nat_le}
use Rattle.meanings.specs.Layers.{turned}
use Rattle.meanings.specs.Meaning.{Meaning}
use Rattle.book.specs.declared.refusal.Refusal.{Refusal}
use Rattle.book.specs.declared.refusal.Refusal.TheVariants.{AboveTop}
use Rattle.book.specs.declared.role.Role.{Role}
use Rattle.book.specs.Refusals.{ask}
use Rattle.book.specs.Rows.{ColumnMeanings, within, codes, padded}

-- The code of x, or refusal 13.
abbrev pub one_coded : Meaning → ℕ → Result ℕ Refusal
one_coded m x = ask (nat_le x m.top) AboveTop (Ok (m.rule x))

-- The number whose code is y, or refusal 13.
abbrev pub one_back : Meaning → ℕ → Result ℕ Refusal
one_back m y = one_coded (turned m) y

-- The eight numbers of a row's record, or refusal 13.
abbrev pub row_coded : ColumnMeanings → List Role → List ℕ → Result (List ℕ) Refusal
row_coded m rs xs = ask (within m rs xs) AboveTop (Ok (padded (codes m rs xs)))
