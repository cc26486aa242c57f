-- Calls on an open release.
use Rattle.std.specs.Prelude.{ℕ, List}
use Rattle.book.specs.declared.entry.Entry.{Entry}

-- A call by what it is given.
pub data Asked : Type 0 where
  put : List ℕ → Asked
  withdraw : ℕ → Asked
  show : Entry → Asked
  turn_back : Entry → Asked
  tally : Asked
