-- Places in a text.
use Rattle.std.specs.List.{AllByRecursion}
use Rattle.std.specs.Prelude.{◌≡◌, ℕ, ◌+◌, ◌-◌, ◌^◌, ◌<◌, ◌≤◌, false, List, [], ◌∷◌, ◌++◌, length, drop, min}
use Rattle.jobs.specs.Signs.{code_of, ends_word, spaces_first, squeezed, words, FirstWord, WordOver, Numeral}
use Rattle.jobs.specs.declared.cursor.Cursor.{Cursor}
use Rattle.jobs.specs.declared.place.BadText.{BadText}
use Rattle.jobs.specs.declared.place.Place.{Place}
use Rattle.jobs.specs.declared.place.Sign.{Sign}
use Rattle.jobs.specs.declared.place.Wrong.{Wrong}

-- The place so many bytes behind this one on its line. A column that is too large to be told is told as the largest.
abbrev pub place_from : Place → ℕ → Place
place_from p at = record { line = p.line; column = min (p.column + at) (2 ^ 64 - 1) }

abbrev pub place_at : ℕ → ℕ → Place
place_at line column = record { line = line; column = column }

-- Where a line begins.
abbrev pub line_start : ℕ → Place
line_start number = place_at number 1

-- Where a line's first byte stands that is no space.
abbrev pub first_place : List ℕ → ℕ → Place
first_place line number = place_from (line_start number) (spaces_first line)

-- From so many bytes on, how many stand before the next that is no space.
abbrev pub next_at : List ℕ → ℕ → ℕ
next_at text at = at + spaces_first (drop at text)

-- From one place of a text to another stands this word, behind spaces. It is all of a word, and may be empty.
pub record WordBetween (text : List ℕ) (from : ℕ) (w : List ℕ) (to : ℕ) : Type 0 where
  pub first : FirstWord (drop (next_at text from) text) w
  pub ends : to ≡ next_at text from + length w

-- This byte comes first.
abbrev pub First : ℕ → List ℕ → Type 0
First b [] = ⊥
First b (x ∷ xs) = x ≡ b

-- The same of a sign.
pub record SignBetween (text : List ℕ) (from : ℕ) (b : ℕ) (to : ℕ) : Type 0 where
  pub first : First b (drop (next_at text from) text)
  pub ends : to ≡ next_at text from + 1

abbrev pub blamed : Place → Wrong → BadText
blamed p w = record { place = p; wrong = w }

-- What is left of the text.
abbrev pub left_of : Cursor → List ℕ
left_of c = drop c.at c.source.bytes.now

-- What is left of the text, without its spaces.
abbrev pub rest_of : Cursor → List ℕ
rest_of c = squeezed (left_of c)

-- What is left of the text, as its words.
abbrev pub words_left : Cursor → List (List ℕ)
words_left c = words (left_of c)

abbrev pub place_of : Cursor → Place
place_of c = place_from c.source.start c.at

-- This is wrong here.
abbrev pub bad_at : Cursor → Wrong → BadText
bad_at c w = blamed (place_of c) w

abbrev pub past : Cursor → ℕ
past c = next_at c.source.bytes.now c.at

-- The second place is behind spaces and this sign.
abbrev pub SignPast : Cursor → Sign → Cursor → Type 0
SignPast c s d = SignBetween c.source.bytes.now c.at (code_of s) d.at

-- A later place of the same text; between the two stands s, with spaces.
pub record After (c d : Cursor) (s : List ℕ) : Type 0 where
  pub same : d.source ≡ c.source
  pub text : rest_of c ≡ s ++ rest_of d

-- Behind spaces stands this word, which is not empty, and the second place is where it ends.
pub record NextWord (c d : Cursor) (w : List ℕ) : Type 0 where
  pub after : After c d w
  pub between : WordBetween c.source.bytes.now c.at w d.at
  pub same_words : words_left c ≡ words (w ++ left_of d)
  pub some : 0 < length w
  pub whole : AllByRecursion (λ b. ends_word b ≡ false) w
  pub over : WordOver (left_of d)

-- A number stands between the two.
pub record NumberRead (c d : Cursor) (n : ℕ) : Type 0 where
  pub digits : List ℕ
  pub word : NextWord c d digits
  pub number : Numeral digits n

-- Lines and columns count from 1.
pub record Counted (p : Place) : Type 0 where
  pub line : 1 ≤ p.line
  pub column : 1 ≤ p.column

-- A whole line of this number, between whose ends stand these places of a text, the first of them behind the line's first spaces.
pub record IsOn (line : List ℕ) (number : ℕ) (c d : Cursor) : Type 0 where
  pub bytes : c.source.bytes.now ≡ line
  pub on : c.source.start.line ≡ number
  pub from : c.source.start.column ≡ 1
  pub first : place_of c ≡ first_place line number
  pub same : d.source ≡ c.source
