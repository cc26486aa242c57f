-- What stands where a text is wrong.
use Rattle.std.specs.Prelude.{◌≡◌, ℕ, ◌≤◌, List, [], ◌∷◌, length, drop, Result, MatchResult}
use Rattle.jobs.specs.Parsed.{Said, form_name}
use Rattle.jobs.specs.Places.{blamed, next_at, place_from}
use Rattle.jobs.specs.Signs.{code_of, squeezed, FirstWord, Flush, IsNoName, IsNoNumber}
use Rattle.jobs.specs.declared.cursor.Cursor.{Cursor}
use Rattle.jobs.specs.declared.cursor.Source.{Source}
use Rattle.jobs.specs.declared.parse.Form.{Form}
use Rattle.jobs.specs.declared.place.BadText.{BadText}
use Rattle.jobs.specs.declared.place.Place.{Place}
use Rattle.jobs.specs.declared.place.Wrong.{Wrong}
use Rattle.jobs.specs.declared.place.Wrong.TheVariants as wrong
use Rattle.jobs.specs.declared.written.Written.{Written}

-- This byte does not come first.
abbrev pub NotFirst : ℕ → List ℕ → Type 0
NotFirst b [] = Unit {0}
NotFirst b (x ∷ xs) = x ≡ b → ⊥

-- No space comes first, and P holds of the word that does.
abbrev pub WordIs : (List ℕ → Type 0) → List ℕ → Type 0
WordIs P t = Flush t × ((w : List ℕ) × FirstWord t w × P w)

-- No coding has this name.
abbrev pub Nameless : List ℕ → Type 0
Nameless w = (f : Form) → w ≡ form_name f → ⊥

-- What is left of a text from where this is wrong with it on. The last four are wrong with a line as a whole.
abbrev pub Stands : Wrong → List ℕ → Type 0
Stands wrong.UnknownName t = WordIs Nameless t
Stands wrong.NoNumber t = WordIs IsNoNumber t
Stands wrong.NoName t = WordIs IsNoName t
Stands (wrong.MissingSign s) t = Flush t × NotFirst (code_of s) t
Stands wrong.GoesOn t = Flush t × (t ≡ [] → ⊥)
Stands wrong.TooDeep t = Flush t
Stands wrong.NoMemory t = Unit {0}
Stands wrong.UnknownWord t = ⊥
Stands (wrong.MissingLine h) t = ⊥
Stands wrong.TwiceGiven t = ⊥
Stands wrong.LateHead t = ⊥

-- A text that begins at a place is wrong so many bytes on: that place is told, and what stands there is wrong for the reason
-- that is told.
pub record WrongAt (text : List ℕ) (start : Place) (e : BadText) : Type 0 where
  pub at : ℕ
  pub within : at ≤ length text
  pub place : e.place ≡ place_from start at
  pub stands : Stands e.wrong (drop at text)

pub record InText (s : Source) (e : BadText) : Type 0 where
  pub at : ℕ
  pub within : at ≤ length s.bytes.now
  pub place : e.place ≡ place_from s.start at
  pub stands : Stands e.wrong (drop at s.bytes.now)

-- From so many bytes of a text on, the next byte that is no space is where this is wrong.
pub record NextWrong (text : List ℕ) (start : Place) (from : ℕ) (w : Wrong) (e : BadText) : Type 0 where
  pub is : e ≡ blamed (place_from start (next_at text from)) w
  pub within : next_at text from ≤ length text
  pub stands : Stands w (drop (next_at text from) text)

abbrev pub Blames : Cursor → Wrong → BadText → Type 0
Blames c w e = NextWrong c.source.bytes.now c.source.start c.at w e × InText c.source e

-- A text is a pile, or wrong at a place.
abbrev pub Parses : List (List ℕ) → ℕ → List ℕ → Place → Result Written BadText → Type 0
Parses names deepest text start r = MatchResult r (Said names deepest (squeezed text)) (WrongAt text start)
