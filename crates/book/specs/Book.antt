-- The book of a release: the rows that were put, by their numbers, standing or withdrawn.
use Rattle.std.specs.Prelude.{◌≡◌, ℕ, ◌+◌, ◌-◌, ◌≤◌, Bool, true, false, ◌&&◌, List, [], ◌∷◌, ◌++◌, map, length, replicate, count_by, Ok, Err, Result, ◌==◌, nat_le, nat_lt, slice_index, slice_index_or, slice_set}
use Rattle.std.specs.List.{AllByRecursion}
use Rattle.book.specs.declared.entry.Entry.{Entry}
use Rattle.book.specs.declared.refusal.Refusal.{Refusal}
use Rattle.book.specs.declared.refusal.Refusal.TheVariants.{AboveTop, NumberCount, NoPlaceFree, NotStanding, NoSuchColumn}
use Rattle.book.specs.declared.row.Row.{Row}
use Rattle.book.specs.Refusals.{ask}
use Rattle.book.specs.Raw.{entry_coding}
use Rattle.book.specs.Rows.{Setup, within, codes, marked, blank}

pub record BookRow : Type 0 where
  pub numbers : List ℕ
  pub standing : Bool

abbrev pub no_row : BookRow
no_row = record { numbers = []; standing = false }

-- The book's row numbered i.
abbrev pub row_at : List BookRow → ℕ → BookRow
row_at b i = slice_index_or b (i - 1) no_row

abbrev pub row_stands : List BookRow → ℕ → Bool
row_stands b i = nat_lt 0 i && (nat_le i (length b) && (row_at b i).standing)

-- The number of an entry.
abbrev pub entry_number : List BookRow → Entry → ℕ
entry_number b e = slice_index (row_at b e.row).numbers e.column

abbrev pub withdrawn : BookRow → BookRow
withdrawn r = record { numbers = r.numbers; standing = false }

abbrev pub count_standing : List BookRow → ℕ
count_standing rs = count_by (λ r. r.standing) rs

module _ (s : Setup) (b : List BookRow) where
  abbrev pub book_put : List ℕ → Result ℕ Refusal
  book_put xs =
      ask (length xs == length s.roles) NumberCount (
      ask (nat_lt (length b) s.records) NoPlaceFree (
      ask (within s.codings s.roles xs) AboveTop (Ok (length b + 1))))

  abbrev pub after_put : List ℕ → List BookRow
  after_put xs = elim (book_put xs) [ Ok n ↦ b ++ record { numbers = xs; standing = true } ∷ [] | Err e ↦ b ]

  abbrev pub book_withdraw : ℕ → Result (Unit {0}) Refusal
  book_withdraw i = ask (row_stands b i) NotStanding (Ok tt)

  abbrev pub after_withdraw : ℕ → List BookRow
  after_withdraw i = elim (book_withdraw i) [ Ok n ↦ slice_set b (i - 1) (withdrawn (row_at b i)) | Err e ↦ b ]

  abbrev pub entry_code : Entry → ℕ
  entry_code e = (entry_coding s e).rule (entry_number b e)

  abbrev pub book_show : Entry → Result ℕ Refusal
  book_show e =
      ask (row_stands b e.row) NotStanding (
      ask (nat_lt e.column (length s.roles)) NoSuchColumn (Ok (entry_code e)))

  abbrev pub book_turn_back : Entry → Result ℕ Refusal
  book_turn_back e =
      ask (row_stands b e.row) NotStanding (
      ask (nat_lt e.column (length s.roles)) NoSuchColumn (
      ask (nat_le (entry_code e) (entry_coding s e).top) AboveTop (Ok (entry_number b e))))

  abbrev pub book_tally : Result (ℕ × ℕ) Refusal
  book_tally = Ok (length b, count_standing b)

-- The row memory that a book calls for. A standing row's record holds the row's codes, filled up with zeros,
-- and is marked; the record of a withdrawn row and of a free place is blank.
abbrev pub record_of : Setup → BookRow → Row
record_of s r = elim r.standing [ true ↦ marked (codes s.codings s.roles r.numbers) | false ↦ blank ]

abbrev pub memory_of : Setup → List BookRow → List Row
memory_of s b = map (record_of s) b ++ replicate (s.records - length b) blank

-- The book b keeps a release with so many places taken and this row memory.
pub record Keeps (s : Setup) (taken : ℕ) (memory : List Row) (b : List BookRow) : Type 0 where
  pub places : taken ≡ length b
  pub fits : length b ≤ s.records
  pub narrow : length s.roles ≤ 8
  pub rows : AllByRecursion (λ r. (length r.numbers ≡ length s.roles) × (within s.codings s.roles r.numbers ≡ true)) b
  pub held : memory ≡ memory_of s b
