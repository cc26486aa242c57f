-- What the lines of a job's head say.
use Rattle.std.specs.List.{AllByRecursion, concat, filter_map}
use Rattle.std.specs.Option.{is_some}
use Rattle.std.specs.Prelude.{◌≡◌, ℕ, ◌+◌, ◌-◌, ◌≤◌, ◌⊎◌, Bool, true, false, cond, List, [], ◌∷◌, ◌++◌, length, take, drop, Option, Some, None, Result, MatchResult}
use Rattle.std.specs.Str.{bytes_eq, chars}
use Rattle.std.specs.declared.alloc.Global.{Global}
use Rattle.std.specs.declared.vec.Vec.{Vec}
use Rattle.jobs.specs.Parsed.{Said, texts}
use Rattle.jobs.specs.Faults.{InText, WrongAt}
use Rattle.jobs.specs.Places.{Counted, bad_at, blamed, first_place, line_start}
use Rattle.jobs.specs.Signs.{words, not_empty}
use Rattle.jobs.specs.Steps.{Begins, IsBlank, IsRow, NoWord, Speaks, head_text, step_text}
use Rattle.jobs.specs.declared.cursor.Cursor.{Cursor}
use Rattle.jobs.specs.declared.job.Found.{Found}
use Rattle.jobs.specs.declared.job.Head.{Head}
use Rattle.jobs.specs.declared.job.StepWord.{StepWord}
use Rattle.jobs.specs.declared.place.BadText.{BadText}
use Rattle.jobs.specs.declared.place.HeadWord.{HeadWord}
use Rattle.jobs.specs.declared.place.HeadWord.TheVariants.{Yarn, Hands, Roles, Records}
use Rattle.jobs.specs.declared.place.Wrong.TheVariants.{MissingLine, TwiceGiven}
use Rattle.jobs.specs.declared.written.Written.{Written}

-- Of the words of a line, those behind the first, if that is this one.
abbrev pub behind : List ℕ → List (List ℕ) → Option (List (List ℕ))
behind w [] = None
behind w (v ∷ vs) = cond (bytes_eq v w) (Some vs) None

-- What stands behind a word of the head on each of these lines that begins with it.
abbrev pub given : HeadWord → List (List ℕ) → List (List (List ℕ))
given h ls = filter_map (λ line. behind (head_text h) (words line)) ls

-- The words, put together, spell a pile of at most 1000 layers with files of the list.
abbrev pub SpellsPile : List (List ℕ) → List (List ℕ) → Written → Type 0
SpellsPile names ws w = Said names 1000 (concat ws) w

-- The words are one, whose characters are the roles.
abbrev pub SpellsRoles : List (List ℕ) → Vec ℕ Global → Type 0
SpellsRoles ws v = (letters : List ℕ) × (ws ≡ letters ∷ []) × (v.items ≡ chars letters)

-- What was found is what the one line says that gives it; or there is no such line, and nothing was found.
abbrev pub Once : {T : Type 0} → (List (List ℕ) → T → Type 0) → List (List (List ℕ)) → Option T → Type 0
Once says g None = g ≡ []
Once says g (Some x) = (ws : List (List ℕ)) × (g ≡ ws ∷ []) × says ws x

-- A line of the head, or one that says nothing.
abbrev pub OfHead : List ℕ → Type 0
OfHead line = IsBlank line ⊎ ((h : HeadWord) × Begins (head_text h) line)

-- These lines are right as lines of a head, each given once at most, and say this.
pub record RightSoFar (ls : List (List ℕ)) (f : Found) : Type 0 where
  pub yarn : Once (SpellsPile (texts f.files)) (given Yarn ls) f.yarn
  pub hands : Once (SpellsPile (texts f.files)) (given Hands ls) f.hands
  pub roles : Once SpellsRoles (given Roles ls) f.roles
  pub records : Once IsRow (given Records ls) f.records
  pub only : AllByRecursion OfHead ls

abbrev pub has_line : Found → HeadWord → Bool
has_line f Yarn = is_some f.yarn
has_line f Hands = is_some f.hands
has_line f Roles = is_some f.roles
has_line f Records = is_some f.records

-- The head is over: no line follows, or a step does.
abbrev pub Over : List (List ℕ) → Type 0
Over [] = Unit {0}
Over (line ∷ ls) = (s : StepWord) × Begins (step_text s) line

-- A line was taken in; or it is a step, and nothing was.
abbrev pub Taken : List ℕ → Found → Found → Bool → Type 0
Taken line old new false = (ls : List (List ℕ)) → RightSoFar ls old → RightSoFar (ls ++ (line ∷ [])) new
Taken line old new true = (new ≡ old) × Over (line ∷ [])

-- Why a line of the head is wrong: it was given already, and its first byte that is no space is told; or else it is wrong where
-- it is told.
abbrev pub HeadWrong : Bool → List ℕ → ℕ → BadText → Type 0
HeadWrong had line number e = (had ≡ true → e ≡ blamed (first_place line number) TwiceGiven) × (had ≡ false → WrongAt line (line_start number) e)

-- Why a line ends the job, which no empty line and no comment does: no line of a job begins as it does; or it is one of the head, and
-- wrong.
abbrev pub LineWrong : List ℕ → ℕ → (HeadWord → Bool) → BadText → Type 0
LineWrong line number had e =
    NoWord line number e ⊎ (Speaks line × ((h : HeadWord) × Begins (head_text h) line × HeadWrong (had h) line number e))

-- A line was looked at.
abbrev pub LineRead : List ℕ → ℕ → Found → Found → Result Bool BadText → Type 0
LineRead line number old new r = MatchResult r (Taken line old new) (LineWrong line number (has_line old))

-- A line of the head was put in, whose word stands here; or it is wrong.
abbrev pub PutIn : {T : Type 0} → Cursor → Bool → Found → Found → Result T BadText → Type 0
PutIn here had old new r = MatchResult r (λ x. Taken here.source.bytes.now old new false)
    (λ e. (had ≡ true → e ≡ bad_at here TwiceGiven) × (had ≡ false → InText here.source e))

-- What was found, where all was.
pub record AllFound (f : Found) (n : ℕ) (h : Head) : Type 0 where
  pub yarn : f.yarn ≡ Some h.yarn
  pub hands : f.hands ≡ Some h.hands
  pub files : h.files ≡ f.files
  pub roles : f.roles ≡ Some h.roles
  pub records : f.records ≡ Some h.records
  pub lines : h.lines ≡ n

-- The line of this number is told, from its beginning, as one where the head has ended without such a line.
abbrev pub missing : ℕ → HeadWord → BadText
missing number w = blamed (line_start number) (MissingLine w)

-- The head is over behind this many lines: all was found, or the line behind it is told as lacking one.
abbrev pub HeadFrom : Found → ℕ → Result Head BadText → Type 0
HeadFrom f n r = MatchResult r (AllFound f n) (λ e. (w : HeadWord) × (has_line f w ≡ false) × (e ≡ blamed (line_start (n + 1)) (MissingLine w)))

-- A job of these lines has this head: it is as long as it says, each of its four lines stands in it once, and says this, and
-- all other lines in it are empty or comments.
pub record Whole (ls : List (List ℕ)) (h : Head) : Type 0 where
  pub yarn : Once (SpellsPile (texts h.files)) (given Yarn (take h.lines ls)) (Some h.yarn)
  pub hands : Once (SpellsPile (texts h.files)) (given Hands (take h.lines ls)) (Some h.hands)
  pub roles : Once SpellsRoles (given Roles (take h.lines ls)) (Some h.roles)
  pub records : Once IsRow (given Records (take h.lines ls)) (Some h.records)
  pub only : AllByRecursion OfHead (take h.lines ls)
  pub long : h.lines ≤ length ls
  pub over : Over (drop h.lines ls)

-- The head is over, and has no such line. The line behind it is told, from its beginning.
pub record Lacks (before from : List (List ℕ)) (e : BadText) : Type 0 where
  pub word : HeadWord
  pub is : e ≡ blamed (line_start e.place.line) (MissingLine word)
  pub none : given word before ≡ []
  pub over : Over from

abbrev pub is_given : List (List ℕ) → HeadWord → Bool
is_given ls h = not_empty (given h ls)

-- The first line here is wrong as a line of a head.
abbrev pub FirstWrong : List (List ℕ) → List (List ℕ) → BadText → Type 0
FirstWrong before [] e = ⊥
FirstWrong before (line ∷ ls) e = LineWrong line e.place.line (is_given before) e

-- A job of these lines has no head, and this is its first fault: all lines before it are right; it is of a line of the head
-- that is missing where the head is over, or of the line that stands there.
pub record Spoilt (ls : List (List ℕ)) (e : BadText) : Type 0 where
  pub counted : Counted e.place
  pub before : (f : Found) × RightSoFar (take (e.place.line - 1) ls) f
  pub why : Lacks (take (e.place.line - 1) ls) (drop (e.place.line - 1) ls) e ⊎ FirstWrong (take (e.place.line - 1) ls) (drop (e.place.line - 1) ls) e
