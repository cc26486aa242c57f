-- What each call answers and leaves, whatever the row memory holds: the questions in their sequence, of
-- which the first no decides.
use Rattle.std.specs.Prelude.{ℕ, ◌+◌, ◌-◌, Bool, ◌&&◌, List, length, take, count_by, Ok, Err, Result, ◌==◌, nat_le, nat_lt, slice_index, slice_index_or, slice_set}
use Rattle.meanings.specs.Meaning.{Meaning}
use Rattle.book.specs.declared.entry.Entry.{Entry}
use Rattle.book.specs.declared.refusal.Refusal.{Refusal}
use Rattle.book.specs.declared.refusal.Refusal.TheVariants.{AboveTop, MemoryLength, NumberCount, NoPlaceFree, NotStanding, NoSuchColumn}
use Rattle.book.specs.declared.role.Role.TheVariants.{Clear}
use Rattle.book.specs.declared.row.Row.{Row}
use Rattle.book.specs.Refusals.{ask}
use Rattle.book.specs.Rows.{Setup, coding_of, within, codes, marked, blank}

-- The record of the row numbered i, and whether the row stands. It does where a put has been answered with
-- i, which the places taken tell, and the mark of that record is set.
abbrev pub record_at : List Row → ℕ → Row
record_at memory i = slice_index_or memory (i - 1) blank

abbrev pub stands : (taken : ℕ) → List Row → ℕ → Bool
stands taken memory i = nat_lt 0 i && (nat_le i taken && (record_at memory i).standing)

-- The coding of an entry, one number of a row, is that of its column.
abbrev pub entry_coding : Setup → Entry → Meaning
entry_coding s e = coding_of s.codings (slice_index_or s.roles e.column Clear)

-- How many records have the mark.
abbrev pub count_marks : List Row → ℕ
count_marks rs = count_by (λ r. r.standing) rs

module _ (s : Setup) (taken : ℕ) (memory : List Row) where
  abbrev pub put_answer : List ℕ → Result ℕ Refusal
  put_answer xs =
      ask (length memory == s.records) MemoryLength (
      ask (length xs == length s.roles) NumberCount (
      ask (nat_lt taken s.records) NoPlaceFree (
      ask (within s.codings s.roles xs) AboveTop (Ok (taken + 1)))))

  -- what a put leaves of row memory and of the places taken
  abbrev pub put_memory : List ℕ → List Row
  put_memory xs = elim (put_answer xs) [ Ok n ↦ slice_set memory taken (marked (codes s.codings s.roles xs)) | Err e ↦ memory ]

  abbrev pub put_taken : List ℕ → ℕ
  put_taken xs = elim (put_answer xs) [ Ok n ↦ n | Err e ↦ taken ]

  abbrev pub withdraw_answer : ℕ → Result (Unit {0}) Refusal
  withdraw_answer i =
      ask (length memory == s.records) MemoryLength (
      ask (stands taken memory i) NotStanding (Ok tt))

  abbrev pub withdraw_memory : ℕ → List Row
  withdraw_memory i = elim (withdraw_answer i) [ Ok n ↦ slice_set memory (i - 1) blank | Err e ↦ memory ]

  abbrev pub show_answer : Entry → Result ℕ Refusal
  show_answer e =
      ask (length memory == s.records) MemoryLength (
      ask (stands taken memory e.row) NotStanding (
      ask (nat_lt e.column (length s.roles)) NoSuchColumn (Ok (slice_index (record_at memory e.row).numbers e.column))))

  abbrev pub turn_back_answer : Entry → Result ℕ Refusal
  turn_back_answer e =
      let coding = entry_coding s e in
      let code = slice_index (record_at memory e.row).numbers e.column in
      ask (length memory == s.records) MemoryLength (
      ask (stands taken memory e.row) NotStanding (
      ask (nat_lt e.column (length s.roles)) NoSuchColumn (
      ask (nat_le code coding.top) AboveTop (Ok (coding.back code)))))

  -- the places taken, and the rows standing
  abbrev pub tally_answer : Result (ℕ × ℕ) Refusal
  tally_answer = ask (length memory == s.records) MemoryLength (Ok (taken, count_marks (take taken memory)))
