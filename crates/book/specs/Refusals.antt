-- The refusals of a release and their numbers, and a question before work is done.
use Rattle.std.specs.Prelude.{ℕ, Bool, true, false, List, Err, codes, Result}
use Rattle.book.specs.declared.refusal.Refusal.{Refusal}
use Rattle.book.specs.declared.refusal.Refusal.TheVariants.{AboveTop, Columns, RoleLetter, RowRecords, MemoryLength, NumberCount, NoPlaceFree, NotStanding, NoSuchColumn}

abbrev pub number_of : Refusal → ℕ
number_of AboveTop = 13
number_of Columns = 14
number_of RoleLetter = 15
number_of RowRecords = 16
number_of MemoryLength = 17
number_of NumberCount = 18
number_of NoPlaceFree = 19
number_of NotStanding = 20
number_of NoSuchColumn = 21

abbrev pub words_of : Refusal → List ℕ
words_of AboveTop = codes "the number is above the coding's top"
words_of Columns = codes "a release has 1 to 8 columns"
words_of RoleLetter = codes "a role letter is Y, H or C"
words_of RowRecords = codes "a release has 1 to 4096 row records"
words_of MemoryLength = codes "the row memory has not the length that the release was opened with"
words_of NumberCount = codes "a row has one number for each column"
words_of NoPlaceFree = codes "no place is free"
words_of NotStanding = codes "the row is not standing"
words_of NoSuchColumn = codes "there is no such column"

-- A question: where the answer is no, the refusal; where it is yes, what comes next.
abbrev pub ask : {X : Type 0} → Bool → Refusal → Result X Refusal → Result X Refusal
ask true r rest = rest
ask false r rest = Err r
