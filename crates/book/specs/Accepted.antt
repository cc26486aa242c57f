-- The rows of a release as whoever made the calls can tell them, from the calls and their answers alone.
use Rattle.std.specs.Prelude.{◌≡◌, ℕ, Bool, true, false, not, ◌&&◌, ◌||◌, List, [], ◌∷◌, ◌++◌, map, Ok, Result, is_ok, ◌==◌}
use Rattle.book.specs.declared.call.Answer.{Answer}
use Rattle.book.specs.declared.call.Answer.TheVariants.{Put}
use Rattle.book.specs.declared.refusal.Refusal.{Refusal}
use Rattle.book.specs.Asked.{Asked, put, withdraw}
use Rattle.book.specs.Book.{BookRow, row_stands}

-- The numbers of a put that was answered with a row number, alone in a list; at any other call none.
abbrev pub accepted_at : Asked → Result Answer Refusal → List (List ℕ)
accepted_at (put xs) (Ok (Put n)) = xs ∷ []
accepted_at c r = []

-- The accepted rows: the numbers of the puts that were answered with a row number, in their order.
abbrev pub accepted : List Asked → List (Result Answer Refusal) → List (List ℕ)
accepted [] rs = []
accepted (c ∷ cs) [] = []
accepted (c ∷ cs) (r ∷ rs) = accepted_at c r ++ accepted cs rs

module _ (i : ℕ) where
  -- Was this a put, and answered with row number i?
  abbrev pub puts_it : Asked → Result Answer Refusal → Bool
  puts_it (put xs) (Ok (Put n)) = n == i
  puts_it c r = false

  -- Was this a withdrawal of row i, and not refused?
  abbrev pub withdraws_it : Asked → Result Answer Refusal → Bool
  withdraws_it (withdraw j) r = is_ok r && (j == i)
  withdraws_it c r = false

  -- Was each withdrawal of row i refused?
  abbrev pub never_withdrawn : List Asked → List (Result Answer Refusal) → Bool
  never_withdrawn [] rs = true
  never_withdrawn (c ∷ cs) [] = true
  never_withdrawn (c ∷ cs) (r ∷ rs) = not (withdraws_it c r) && never_withdrawn cs rs

  -- Was row number i the answer of a put, and each later withdrawal of that row refused?
  abbrev pub put_and_stands : List Asked → List (Result Answer Refusal) → Bool
  put_and_stands [] rs = false
  put_and_stands (c ∷ cs) [] = false
  put_and_stands (c ∷ cs) (r ∷ rs) = (puts_it c r && never_withdrawn cs rs) || put_and_stands cs rs

-- What calls with these answers make of the book b: the accepted rows stand behind its rows, and a row stands
-- exactly when it was put and stands by the answers, or stood before and was never withdrawn. Of the empty book
-- no row stands, so that the calls and answers alone tell every row and which of them stand.
pub record RowsTold (cs : List Asked) (told : List (Result Answer Refusal)) (b b' : List BookRow) : Type 0 where
  pub rows : map (λ r. r.numbers) b' ≡ map (λ r. r.numbers) b ++ accepted cs told
  pub standing : (i : ℕ) → row_stands b' i ≡ (put_and_stands i cs told || (row_stands b i && never_withdrawn i cs told))
