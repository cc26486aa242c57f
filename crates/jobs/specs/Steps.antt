-- What a line of a job says.
use Rattle.std.specs.Prelude.{◌≡◌, ℕ, ◌<◌, List, [], ◌∷◌, ◌++◌, ◌⊎◌, codes, length, slice_index, Option, Some, None}
use Rattle.book.specs.declared.entry.Entry.{Entry}
use Rattle.jobs.specs.Faults.{InText, NextWrong}
use Rattle.jobs.specs.Places.{left_of, words_left, IsOn, WordBetween, blamed, first_place, line_start}
use Rattle.jobs.specs.Signs.{squeezed, words, WordOver, Apart, Numeral}
use Rattle.jobs.specs.declared.cursor.Cursor.{Cursor}
use Rattle.jobs.specs.declared.job.LineWord.{LineWord}
use Rattle.jobs.specs.declared.job.LineWord.TheVariants.{Head as HeadLine, Step as StepLine}
use Rattle.jobs.specs.declared.job.Step.{Step}
use Rattle.jobs.specs.declared.job.Step.TheVariants as step
use Rattle.jobs.specs.declared.job.StepWord.{StepWord}
use Rattle.jobs.specs.declared.job.StepWord.TheVariants as word
use Rattle.jobs.specs.declared.job.WordLine.{WordLine}
use Rattle.jobs.specs.declared.place.HeadWord.{HeadWord}
use Rattle.jobs.specs.declared.place.HeadWord.TheVariants as head
use Rattle.jobs.specs.declared.place.BadText.{BadText}
use Rattle.jobs.specs.declared.place.Place.{Place}
use Rattle.jobs.specs.declared.place.Wrong.TheVariants.{GoesOn, LateHead, NoName, NoNumber, UnknownWord}

-- An empty line or a comment, whose first sign is #.
abbrev pub IsBlank : List ℕ → Type 0
IsBlank line = (squeezed line ≡ []) ⊎ (slice_index (squeezed line) 0 ≡ 35)

abbrev pub step_text : StepWord → List ℕ
step_text word.Rows = codes "rows"
step_text word.Withdraw = codes "withdraw"
step_text word.Show = codes "show"
step_text word.TurnBack = codes "turnback"
step_text word.Tally = codes "tally"
step_text word.Draft = codes "draft"
step_text word.Sheet = codes "sheet"

abbrev pub head_text : HeadWord → List ℕ
head_text head.Yarn = codes "yarn"
head_text head.Hands = codes "hands"
head_text head.Roles = codes "roles"
head_text head.Records = codes "records"

abbrev pub word_text : LineWord → List ℕ
word_text (HeadLine h) = head_text h
word_text (StepLine s) = step_text s

abbrev pub word_of : Step → StepWord
word_of (step.Rows f) = word.Rows
word_of (step.Withdraw r) = word.Withdraw
word_of (step.Show e) = word.Show
word_of (step.TurnBack e) = word.TurnBack
word_of step.Tally = word.Tally
word_of (step.Draft f) = word.Draft
word_of (step.Sheet f) = word.Sheet

-- The words are two numbers, the row and the column.
pub record IsEntry (ws : List (List ℕ)) (e : Entry) : Type 0 where
  pub row : List ℕ
  pub column : List ℕ
  pub is : ws ≡ row ∷ column ∷ []
  pub row_is : Numeral row e.row
  pub column_is : Numeral column e.column

-- The words are one number.
abbrev pub IsRow : List (List ℕ) → ℕ → Type 0
IsRow ws n = (row : List ℕ) × (ws ≡ row ∷ []) × Numeral row n

-- The words behind that of a step.
abbrev pub Operands : List (List ℕ) → Step → Type 0
Operands ws (step.Rows f) = ws ≡ f.now ∷ []
Operands ws (step.Withdraw r) = IsRow ws r
Operands ws (step.Show e) = IsEntry ws e
Operands ws (step.TurnBack e) = IsEntry ws e
Operands ws step.Tally = ws ≡ []
Operands ws (step.Draft f) = ws ≡ f.now ∷ []
Operands ws (step.Sheet f) = ws ≡ f.now ∷ []

-- Behind a step's word stand names of files and numbers.
pub data Operand : Type 0 where
  a_name : Operand
  a_number : Operand

abbrev pub operands_of : StepWord → List Operand
operands_of word.Rows = a_name ∷ []
operands_of word.Withdraw = a_number ∷ []
operands_of word.Show = a_number ∷ a_number ∷ []
operands_of word.TurnBack = a_number ∷ a_number ∷ []
operands_of word.Tally = []
operands_of word.Draft = a_name ∷ []
operands_of word.Sheet = a_name ∷ []

-- From so many bytes on these operands belong, and nothing behind them; the first that is wrong is told.
abbrev pub OperandWrong : List Operand → List ℕ → Place → ℕ → BadText → Type 0
OperandWrong [] text start from e = NextWrong text start from GoesOn e
OperandWrong (a_name ∷ os) text start from e =
    NextWrong text start from NoName e ⊎ ((w : List ℕ) × (to : ℕ) × WordBetween text from w to × (0 < length w) × OperandWrong os text start to e)
OperandWrong (a_number ∷ os) text start from e =
    NextWrong text start from NoNumber e ⊎ ((w : List ℕ) × (to : ℕ) × (n : ℕ) × WordBetween text from w to × Numeral w n × OperandWrong os text start to e)

abbrev pub OperandsBlamed : List Operand → Cursor → BadText → Type 0
OperandsBlamed os c e = OperandWrong os c.source.bytes.now c.source.start c.at e × InText c.source e

-- What is left of a line is one name, one number, or the two of an entry; or it is what a step says behind this word.
abbrev pub OneName : Cursor → List ℕ → Type 0
OneName c s = Apart (left_of c) × (words_left c ≡ s ∷ [])

abbrev pub OneRow : Cursor → ℕ → Type 0
OneRow c n = Apart (left_of c) × IsRow (words_left c) n

abbrev pub OneEntry : Cursor → Entry → Type 0
OneEntry c e = Apart (left_of c) × IsEntry (words_left c) e

abbrev pub StepRead : StepWord → Cursor → Step → Type 0
StepRead w c t = (word_of t ≡ w) × Apart (left_of c) × Operands (words_left c) t

-- The words of a line are a step's word and its operands.
pub record StepSaid (line : List ℕ) (t : Step) : Type 0 where
  pub behind : List (List ℕ)
  pub is : words line ≡ step_text (word_of t) ∷ behind
  pub operands : Operands behind t

abbrev pub Says : List ℕ → Option Step → Type 0
Says line None = IsBlank line
Says line (Some t) = StepSaid line t

-- A line begins with this word, and the word goes no further.
pub record Begins (w line : List ℕ) : Type 0 where
  pub behind : List ℕ
  pub is : words line ≡ words (w ++ behind)
  pub over : WordOver behind

-- A line is neither empty nor a comment.
abbrev pub Speaks : List ℕ → Type 0
Speaks line = IsBlank line → ⊥

-- A line begins with no word of a job.
abbrev pub Unknown : List ℕ → Type 0
Unknown line = (w : LineWord) → Begins (word_text w) line → ⊥

-- A line that is neither empty nor a comment begins with no word of a job. Its first byte that is no space is told.
pub record NoWord (line : List ℕ) (number : ℕ) (e : BadText) : Type 0 where
  pub is : e ≡ blamed (first_place line number) UnknownWord
  pub speaks : Speaks line
  pub unknown : Unknown line

-- A step's word begins a line, and its operands are wrong behind it.
pub record OperandsWrong (line : List ℕ) (number : ℕ) (s : StepWord) (e : BadText) : Type 0 where
  pub begins : Begins (step_text s) line
  pub from : ℕ
  pub word : WordBetween line 0 (step_text s) from
  pub wrong : OperandWrong (operands_of s) line (line_start number) from e

-- Why a line is refused as a step, which no empty line and no comment is: no line begins as it does; or it is one of the head, and
-- its first byte that is no space is told; or it is a step, and the first operand that is wrong is told.
abbrev pub StepWrong : List ℕ → ℕ → BadText → Type 0
StepWrong line number e =
    NoWord line number e
    ⊎ (Speaks line × ((h : HeadWord) × Begins (head_text h) line × (e ≡ blamed (first_place line number) LateHead)))
    ⊎ (Speaks line × ((s : StepWord) × OperandsWrong line number s e))

-- A line begins with a word.
pub record WordRead (line : List ℕ) (number : ℕ) (w : WordLine) : Type 0 where
  pub place : IsOn line number w.here w.after
  pub between : WordBetween line 0 (word_text w.word) w.after.at
  pub text : words line ≡ words (word_text w.word ++ left_of w.after)
  pub over : WordOver (left_of w.after)
  pub words : Apart (left_of w.after) → words line ≡ word_text w.word ∷ words_left w.after
  pub speaks : Speaks line

-- The line is blank, or begins with this word.
abbrev pub BeginsWith : List ℕ → ℕ → Option WordLine → Type 0
BeginsWith line number None = IsBlank line
BeginsWith line number (Some w) = WordRead line number w
