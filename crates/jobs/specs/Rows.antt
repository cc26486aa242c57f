-- What text spells a row of numbers.
use Rattle.std.specs.Prelude.{◌≡◌, ℕ, ◌⊎◌, List, [], ◌∷◌, ◌++◌, drop, map, Result, MatchResult}
use Rattle.std.specs.List.{AllByRecursion, flat_map}
use Rattle.std.specs.Str.Parse.{AllDigits, digits_value}
use Rattle.jobs.specs.Faults.{NextWrong}
use Rattle.jobs.specs.Places.{After, SignBetween, WordBetween, blamed, line_start, next_at, past, place_from}
use Rattle.jobs.specs.Signs.{squeezed}
use Rattle.jobs.specs.declared.cursor.Cursor.{Cursor}
use Rattle.jobs.specs.declared.place.BadText.{BadText}
use Rattle.jobs.specs.declared.place.Sign.TheVariants.{Comma}
use Rattle.jobs.specs.declared.place.Place.{Place}
use Rattle.jobs.specs.declared.place.Wrong.TheVariants.{NoNumber, MissingSign, NoMemory}

-- Fields of decimal digits, a comma behind each but the last, and the numbers that they are; a field of no digits is 0. All
-- spaces are left out.
pub record Row (s numbers : List ℕ) : Type 0 where
  pub fields : List (List ℕ)
  pub last : List ℕ
  pub digits : AllByRecursion (AllDigits 10) (fields ++ (last ∷ []))
  pub is : s ≡ flat_map (λ f. f ++ (44 ∷ [])) fields ++ last
  pub values : numbers ≡ map (digits_value 10) (fields ++ (last ∷ []))

-- From one place of a line to another stands a field, and this is its number.
abbrev pub FieldBetween : List ℕ → ℕ → ℕ → ℕ → Type 0
FieldBetween line from n to = (w : List ℕ) × WordBetween line from w to × AllDigits 10 w × (n ≡ digits_value 10 w)

-- From one place of a line to another stand fields with these numbers, a comma behind each.
abbrev pub FieldsBetween : List ℕ → ℕ → List ℕ → ℕ → Type 0
FieldsBetween line from [] to = to ≡ from
FieldsBetween line from (n ∷ ns) to =
    (end : ℕ) × (next : ℕ) × FieldBetween line from n end × SignBetween line end 44 next × FieldsBetween line next ns to

-- A line is fields with commas between them, and no field has a space in it.
pub record RowStands (line numbers : List ℕ) : Type 0 where
  pub before : List ℕ
  pub last : ℕ
  pub is : numbers ≡ before ++ (last ∷ [])
  pub from : ℕ
  pub fields : FieldsBetween line 0 before from
  pub to : ℕ
  pub field : FieldBetween line from last to
  pub end : drop (next_at line to) line ≡ []

-- A line goes on, and not with a comma.
abbrev pub Continues : List ℕ → Type 0
Continues [] = ⊥
Continues (b ∷ bs) = b ≡ 44 → ⊥

-- A field begins here that is no number; or a field stands here, and what follows it is no comma; or there is no memory for the
-- field that begins here.
abbrev pub FieldFault : List ℕ → Place → ℕ → BadText → Type 0
FieldFault line start from e =
    (NextWrong line start from NoNumber e × Continues (drop (next_at line from) line))
    ⊎ ((n : ℕ) × (to : ℕ) × FieldBetween line from n to × NextWrong line start to (MissingSign Comma) e × Continues (drop (next_at line to) line))
    ⊎ (e ≡ blamed (place_from start from) NoMemory)

-- A line of this number is no row, and this is its first fault: all before it are fields with commas.
pub record RowWrong (line : List ℕ) (number : ℕ) (e : BadText) : Type 0 where
  pub before : List ℕ
  pub from : ℕ
  pub fields : FieldsBetween line 0 before from
  pub fault : FieldFault line (line_start number) from e

abbrev pub RowRead : {T : Type 0} → List ℕ → ℕ → List ℕ → Result T BadText → Type 0
RowRead line number numbers r = MatchResult r (λ x. Row (squeezed line) numbers × RowStands line numbers) (RowWrong line number)

-- A field stands between two places.
pub record FieldRead (c d : Cursor) (n : ℕ) : Type 0 where
  pub text : List ℕ
  pub after : After c d text
  pub between : WordBetween c.source.bytes.now c.at text d.at
  pub digits : AllDigits 10 text
  pub value : n ≡ digits_value 10 text

-- The field that comes next is no number.
pub record FieldWrong (c : Cursor) (e : BadText) : Type 0 where
  pub next : NextWrong c.source.bytes.now c.source.start c.at NoNumber e
  pub continues : Continues (drop (past c) c.source.bytes.now)
