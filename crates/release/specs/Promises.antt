-- What holds after a list of calls on a release.
use Rattle.std.specs.Prelude.{◌≡◌, ℕ, List, [], length, Ok, Err, Result, IsOk}
use Rattle.book.specs.declared.call.Answer.{Answer}
use Rattle.book.specs.declared.refusal.Refusal.{Refusal}
use Rattle.book.specs.declared.row.Row.{Row}
use Rattle.book.specs.Rows.{ColumnMeanings, Setup}
use Rattle.book.specs.Book.{BookRow, Keeps}
use Rattle.book.specs.Accepted.{RowsTold}
use Rattle.book.specs.Asked.{Asked}
use Rattle.book.specs.Runs.{answers, after_all, book_answers, book_after_all, Promise}
use Rattle.release.specs.Calls.{open_answer}
use Rattle.release.specs.Listed.{state_of}
use Rattle.release.specs.Views.{setup_of, with_taken}
use Rattle.release.specs.declared.plain.Plain.{Plain}
use Rattle.release.specs.declared.ran.Unopened.{Unopened}
use Rattle.release.specs.declared.ran.Unopened.TheVariants.{Refused, NoMemory}

-- By a book b that keeps the release when the list begins: every answer is the book's, the book after the list
-- keeps what is left, so that row memory is the book's, and the promise on standing rows, tallies and equal
-- codes holds. Its rows are the accepted ones, and stand or not, as the calls and their answers alone tell.
pub record BookKept (s : Setup) (b : List BookRow) (cs : List Asked) (told : List (Result Answer Refusal)) (taken : ℕ) (memory : List Row) : Type 0 where
  pub answers : told ≡ book_answers s b cs
  pub keeps : Keeps s taken memory (book_after_all s b cs)
  pub promise : Promise s (record { taken = taken; memory = memory }) (book_after_all s b cs)
  pub rows : RowsTold cs told b (book_after_all s b cs)

-- A list of calls on the release o: what it answers and leaves by the definition, whatever row memory holds, and
-- what every book that keeps the release says of it.
pub record ListDone (o : Plain) (memory : List Row) (m : ColumnMeanings) (cs : List Asked) (told : List (Result Answer Refusal)) (o' : Plain) (memory' : List Row) : Type 0 where
  pub answered : told ≡ answers (setup_of o m) (state_of o memory) cs
  pub left : state_of o' memory' ≡ after_all (setup_of o m) (state_of o memory) cs
  pub release : o' ≡ with_taken o o'.taken
  pub book : (b : List BookRow) → Keeps (setup_of o m) o.taken memory b → BookKept (setup_of o m) b cs told o'.taken memory'

-- A release opened with these role letters over this row memory, after a list of calls.
pub record RanFrom (letters : List ℕ) (memory : List Row) (m : ColumnMeanings) (cs : List Asked) (o : Plain) (told : List (Result Answer Refusal)) (memory' : List Row) : Type 0 where
  pub roles : open_answer letters (length memory) ≡ Ok o.columns
  pub records : o.records ≡ length memory
  pub book : BookKept (setup_of o m) [] cs told o.taken memory'

-- Why it was not opened: by opening's own refusal, or for want of memory, where nothing refuses the opening.
abbrev pub UnopenedBy : (letters : List ℕ) (records : ℕ) → Unopened → Type 0
UnopenedBy letters records (Refused e) = open_answer letters records ≡ Err e
UnopenedBy letters records NoMemory = IsOk (open_answer letters records)
