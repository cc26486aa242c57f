-- What each call on a release answers and leaves: by the definition for all inputs, and by every book that
-- keeps the release.
use Rattle.std.specs.Prelude.{◌≡◌, ℕ, ◌≤◌, ◌&&◌, List, [], length, replicate, Ok, Err, Result, IfOk, nat_le, nat_lt}
use Rattle.meanings.specs.Meaning.{Lawful}
use Rattle.book.specs.declared.call.Answer.{Answer}
use Rattle.book.specs.declared.entry.Entry.{Entry}
use Rattle.book.specs.declared.refusal.Refusal.{Refusal}
use Rattle.book.specs.declared.refusal.Refusal.TheVariants.{RowRecords}
use Rattle.book.specs.declared.role.Role.{Role}
use Rattle.book.specs.declared.row.Row.{Row}
use Rattle.book.specs.Asked.{Asked}
use Rattle.book.specs.Refusals.{ask}
use Rattle.book.specs.Rows.{ColumnMeanings, blank}
use Rattle.book.specs.Raw.{put_answer, put_memory, put_taken, withdraw_answer, withdraw_memory, show_answer, turn_back_answer, tally_answer}
use Rattle.book.specs.Book.{BookRow, book_put, after_put, book_withdraw, after_withdraw, book_show, book_turn_back, book_tally, Keeps}
use Rattle.book.specs.Runs.{answer, after, book_answer, book_after, RunKept}
use Rattle.release.specs.Listed.{state_of}
use Rattle.release.specs.Opening.{columns_of, ReadAs}
use Rattle.release.specs.Views.{setup_of, plain_setup, with_taken}
use Rattle.release.specs.declared.plain.Plain.{Plain}

-- Opening: 1 to 8 columns, each role letter Y, H or C, 1 to 4096 row records.
abbrev pub open_answer : (letters : List ℕ) (records : ℕ) → Result (List Role) Refusal
open_answer letters records = elim (columns_of letters) [ Ok rs ↦ ask (nat_lt 0 records && nat_le records 4096) RowRecords (Ok rs) | Err e ↦ Err e ]

-- A release just opened has all the records and no place taken, and its memory is all zero. Whatever codings its
-- calls will be given, the empty book keeps it; and where they are lawful, any list of calls made one by one
-- answers what the book answers, leaves what the book then keeps, and accepts the rows that the answers tell.
pub record JustOpened (o : Plain) (memory memory' : List Row) : Type 0 where
  pub records : o.records ≡ length memory
  pub taken : o.taken ≡ 0
  pub zeroed : memory' ≡ replicate (length memory) blank
  pub empty : (m : ColumnMeanings) → Keeps (setup_of o m) o.taken memory' []
  pub runs : (m : ColumnMeanings) → Lawful m.yarn → Lawful m.hands → (cs : List Asked) → RunKept (setup_of o m) (state_of o memory') [] cs

abbrev pub Fresh : Result Plain Refusal → (memory memory' : List Row) → Type 0
Fresh (Ok o) memory memory' = JustOpened o memory memory'
Fresh (Err e) memory memory' = memory' ≡ memory

-- The release that the questions of opening allow; it has at most 8 columns.
pub record Allowed (letters : List ℕ) (records : ℕ) (r : Result Plain Refusal) : Type 0 where
  pub answer : ReadAs (open_answer letters records) r (λ o. o.columns)
  pub fresh : IfOk r (λ o. (o.records ≡ records) × (o.taken ≡ 0) × (length o.columns ≤ 8))

pub record Opened (letters : List ℕ) (memory : List Row) (r : Result Plain Refusal) (memory' : List Row) : Type 0 where
  pub answer : ReadAs (open_answer letters (length memory)) r (λ o. o.columns)
  pub fresh : Fresh r memory memory'

module _ (o : Plain) (memory : List Row) where
  pub record PutDone (m : ColumnMeanings) (xs : List ℕ) (r : Result ℕ Refusal) (o' : Plain) (memory' : List Row) : Type 0 where
    pub answer : r ≡ put_answer (setup_of o m) o.taken memory xs
    pub release : o' ≡ with_taken o (put_taken (setup_of o m) o.taken memory xs)
    pub rows : memory' ≡ put_memory (setup_of o m) o.taken memory xs
    pub book : (b : List BookRow) → Keeps (setup_of o m) o.taken memory b
        → (r ≡ book_put (setup_of o m) b xs) × Keeps (setup_of o' m) o'.taken memory' (after_put (setup_of o m) b xs)

  pub record WithdrawDone (i : ℕ) (r : Result (Unit {0}) Refusal) (memory' : List Row) : Type 0 where
    pub answer : r ≡ withdraw_answer (plain_setup o) o.taken memory i
    pub rows : memory' ≡ withdraw_memory (plain_setup o) o.taken memory i
    pub book : (m : ColumnMeanings) (b : List BookRow) → Keeps (setup_of o m) o.taken memory b
        → (r ≡ book_withdraw (setup_of o m) b i) × Keeps (setup_of o m) o.taken memory' (after_withdraw (setup_of o m) b i)

  pub record ShowDone (e : Entry) (r : Result ℕ Refusal) : Type 0 where
    pub answer : r ≡ show_answer (plain_setup o) o.taken memory e
    pub book : (m : ColumnMeanings) (b : List BookRow) → Keeps (setup_of o m) o.taken memory b → r ≡ book_show (setup_of o m) b e

  pub record TurnBackDone (m : ColumnMeanings) (e : Entry) (r : Result ℕ Refusal) : Type 0 where
    pub answer : r ≡ turn_back_answer (setup_of o m) o.taken memory e
    pub book : (b : List BookRow) → Keeps (setup_of o m) o.taken memory b → r ≡ book_turn_back (setup_of o m) b e

  pub record TallyDone (r : Result (ℕ × ℕ) Refusal) : Type 0 where
    pub answer : r ≡ tally_answer (plain_setup o) o.taken memory
    pub book : (m : ColumnMeanings) (b : List BookRow) → Keeps (setup_of o m) o.taken memory b → r ≡ book_tally (setup_of o m) b

  -- any of the calls
  pub record CallDone (m : ColumnMeanings) (c : Asked) (r : Result Answer Refusal) (o' : Plain) (memory' : List Row) : Type 0 where
    pub answered : r ≡ answer (setup_of o m) (state_of o memory) c
    pub left : state_of o' memory' ≡ after (setup_of o m) (state_of o memory) c
    pub release : o' ≡ with_taken o o'.taken
    pub book : (b : List BookRow) → Keeps (setup_of o m) o.taken memory b
        → (r ≡ book_answer (setup_of o m) b c) × Keeps (setup_of o m) o'.taken memory' (book_after (setup_of o m) b c)
