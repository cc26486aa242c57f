-- What a written pile means, over a list of files.
use Rattle.std.specs.Prelude.{◌≡◌, ℕ, ◌≤◌, List, Option, Some, None, slice_get}
use Rattle.std.specs.declared.alloc.Global.{Global}
use Rattle.std.specs.declared.vec.Vec.{Vec}
use Rattle.meanings.specs.Meaning.{Meaning}
use Rattle.meanings.specs.Layers.{chained, turned, narrowed}
use Rattle.meanings.specs.Supplied.{clear, plus}
use Rattle.kcipher.specs.Bytes.{CipherMeans}
use Rattle.jobs.specs.declared.written.Written.{Written}
use Rattle.jobs.specs.declared.written.Written.TheVariants.{Clear, Plus, Cipher, Chain', Turned', Narrowed'}

abbrev pub Files : Type 0
Files = List (Vec ℕ Global)

-- The bytes of a file, if the list has it.
abbrev pub bytes_at : Files → ℕ → Option (List ℕ)
bytes_at files i = elim (slice_get files i) [ Some v ↦ Some v.items | None ↦ None ]

-- m is plus with this top and constant.
abbrev pub IsPlus : ℕ → ℕ → Meaning → Type 0
IsPlus t k m = (k ≤ t) × (m ≡ plus t k)

-- Two files are there, one of a draft and one of a key, and this holds of their bytes.
pub record OfFiles (files : Files) (d k : ℕ) (P : List ℕ → List ℕ → Type 0) : Type 0 where
  pub draft : List ℕ
  pub key : List ℕ
  pub draft_is : bytes_at files d ≡ Some draft
  pub key_is : bytes_at files k ≡ Some key
  pub bytes : P draft key

-- m is what an accepted cipher of the two files means.
abbrev pub IsCipherOf : Files → ℕ → ℕ → Meaning → Type 0
IsCipherOf files d k m = OfFiles files d k (λ draft key. CipherMeans draft key m)

-- A written pile means m.
abbrev pub Means : Files → Written → Meaning → Type 0
Means files (Clear t) m = m ≡ clear t
Means files (Plus t k) m = IsPlus t k m
Means files (Cipher d k) m = IsCipherOf files d k m
Means files (Chain' p first q then) m = (a : Meaning) × (b : Meaning) × Means files first a × Means files then b × (m ≡ chained a b)
Means files (Turned' p below) m = (a : Meaning) × Means files below a × (m ≡ turned a)
Means files (Narrowed' p below to) m = (a : Meaning) × Means files below a × (m ≡ narrowed to a)
