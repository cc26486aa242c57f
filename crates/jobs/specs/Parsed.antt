-- What text spells a pile.
use Rattle.std.specs.Prelude.{◌≡◌, ℕ, ◌≤◌, ◌⊎◌, List, [], ◌∷◌, ◌++◌, length, map, codes, Some, slice_get}
use Rattle.std.specs.List.{AllByRecursion}
use Rattle.std.specs.String.{string_bytes}
use Rattle.std.specs.declared.alloc.Global.{Global}
use Rattle.std.specs.declared.string.String.{String}
use Rattle.std.specs.declared.vec.Vec.{Vec}
use Rattle.jobs.specs.Places.{After}
use Rattle.jobs.specs.Refused.{height}
use Rattle.jobs.specs.Signs.{Numeral}
use Rattle.jobs.specs.declared.cursor.Cursor.{Cursor}
use Rattle.jobs.specs.declared.parse.Form.{Form}
use Rattle.jobs.specs.declared.parse.Form.TheVariants as form
use Rattle.jobs.specs.declared.written.Written.{Written}
use Rattle.jobs.specs.declared.written.Written.TheVariants.{Clear, Plus, Cipher, Chain', Turned', Narrowed'}

-- The names in a list.
abbrev pub texts : Vec (String Global) Global → List (List ℕ)
texts v = map string_bytes v.items

-- No name of the list is this one.
abbrev pub Lacking : List ℕ → List (List ℕ) → Type 0
Lacking name names = AllByRecursion (λ s. s ≡ name → ⊥) names

-- No name stands in the list twice.
abbrev pub EachOnce : List (List ℕ) → Type 0
EachOnce [] = Unit {0}
EachOnce (name ∷ names) = Lacking name names × EachOnce names

-- A list that may have more at its end, and no name twice if it had none twice.
pub record Grown (old new : List (List ℕ)) : Type 0 where
  pub more : List (List ℕ)
  pub is : new ≡ old ++ more
  pub once : EachOnce old → EachOnce new

-- A name has this place in a list: it stood there, and the list stays as it was; or the list lacked it, and has it at its end now.
abbrev pub Placed : List (List ℕ) → List (List ℕ) → List ℕ → ℕ → Type 0
Placed old new name i = ((slice_get old i ≡ Some name) × (new ≡ old)) ⊎ (Lacking name old × (i ≡ length old) × (new ≡ old ++ (name ∷ [])))

abbrev pub form_name : Form → List ℕ
form_name form.Clear = codes "clear"
form_name form.Plus = codes "plus"
form_name form.KCipher = codes "kcipher"
form_name form.Chain = codes "chain"
form_name form.Turned = codes "turned"
form_name form.Narrowed = codes "narrowed"

abbrev pub form_of : Written → Form
form_of (Clear t) = form.Clear
form_of (Plus t k) = form.Plus
form_of (Cipher d k) = form.KCipher
form_of (Chain' p first q then) = form.Chain
form_of (Turned' p below) = form.Turned
form_of (Narrowed' p below to) = form.Narrowed

-- A name, and what stands in brackets behind it.
abbrev pub called : Form → List ℕ → List ℕ
called f inside = form_name f ++ (40 ∷ (inside ++ (41 ∷ [])))

-- What stands in the brackets of a pile, where all spaces are left out. The names of files are in a list.
abbrev pub Inside : List (List ℕ) → List ℕ → Written → Type 0
Inside names s (Clear t) = Numeral s t
Inside names s (Plus t k) = (a : List ℕ) × (b : List ℕ) × (s ≡ a ++ (44 ∷ b)) × Numeral a t × Numeral b k
Inside names s (Cipher d k) = (a : List ℕ) × (b : List ℕ) × (s ≡ a ++ (44 ∷ b)) × (slice_get names d ≡ Some a) × (slice_get names k ≡ Some b)
Inside names s (Chain' p first q then) =
    (a : List ℕ) × (b : List ℕ) × (s ≡ called (form_of first) a ++ (44 ∷ called (form_of then) b)) × Inside names a first × Inside names b then
Inside names s (Turned' p below) = (a : List ℕ) × (s ≡ called (form_of below) a) × Inside names a below
Inside names s (Narrowed' p below to) =
    (a : List ℕ) × (b : List ℕ) × (s ≡ called (form_of below) a ++ (44 ∷ b)) × Inside names a below × Numeral b to

-- The text, where all spaces are left out, spells the pile.
pub record Spelt (names : List (List ℕ)) (s : List ℕ) (w : Written) : Type 0 where
  pub within : List ℕ
  pub is : s ≡ called (form_of w) within
  pub inside : Inside names within w

-- Between two places of a text stands a pile with at most so many layers above one another.
pub record PileRead (names : List (List ℕ)) (deepest : ℕ) (c d : Cursor) (w : Written) : Type 0 where
  pub text : List ℕ
  pub after : After c d text
  pub spelt : Spelt names text w
  pub low : height w ≤ deepest

-- The same of what stands in its brackets.
pub record InsideRead (names : List (List ℕ)) (deepest : ℕ) (f : Form) (c d : Cursor) (w : Written) : Type 0 where
  pub text : List ℕ
  pub after : After c d text
  pub named : form_of w ≡ f
  pub inside : Inside names text w
  pub low : height w ≤ deepest

-- A name stands between two places, and at this place of the list.
pub record NameRead (names : List (List ℕ)) (c d : Cursor) (i : ℕ) : Type 0 where
  pub name : List ℕ
  pub after : After c d name
  pub named : slice_get names i ≡ Some name

-- What a text says once it was read: nothing but the pile, with as many layers as a pile may have, and files of the list.
pub record Said (names : List (List ℕ)) (deepest : ℕ) (s : List ℕ) (w : Written) : Type 0 where
  pub spelt : Spelt names s w
  pub low : height w ≤ deepest
