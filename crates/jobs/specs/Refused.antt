-- Why a written pile is refused.
use Rattle.std.specs.Prelude.{◌≡◌, ℕ, ◌+◌, ◌<◌, ◌≤◌, max, ◌⊎◌, List, Some, None}
use Rattle.meanings.specs.Meaning.{Meaning}
use Rattle.piles.specs.Stacking.{highest}
use Rattle.piles.specs.declared.error.PileError.TheVariants.{NoMemory, TooHigh}
use Rattle.kcipher.specs.Bytes.{NoneBy}
use Rattle.kcipher.specs.declared.bytes.NoCipher.TheVariants.{Draft as DraftFault, Key as KeyRefused}
use Rattle.jobs.specs.Written.{Files, bytes_at, OfFiles, IsCipherOf, Means}
use Rattle.jobs.specs.declared.unbuilt.Unbuilt.{Unbuilt}
use Rattle.jobs.specs.declared.unbuilt.Unbuilt.TheVariants.{AboveTop, NoFile, Draft, Key, Pile}
use Rattle.jobs.specs.declared.written.Written.{Written}
use Rattle.jobs.specs.declared.written.Written.TheVariants.{Clear, Plus, Cipher, Chain', Turned', Narrowed'}

-- How many layers stand above one another, a leaf counting 1.
abbrev pub height : Written → ℕ
height (Clear t) = 1
height (Plus t k) = 1
height (Cipher d k) = 1
height (Chain' p first q then) = max (height first) (height then) + 1
height (Turned' p below) = height below + 1
height (Narrowed' p below to) = height below + 1

-- The constant of a plus is above its top.
abbrev pub PlusRefused : ℕ → ℕ → Unbuilt → Type 0
PlusRefused t k e = (e ≡ AboveTop) × (t < k)

-- The list has this file.
abbrev pub IsThere : Files → ℕ → Type 0
IsThere files i = (bytes : List ℕ) × (bytes_at files i ≡ Some bytes)

-- Of two files the first that is missing: that of the draft; or it is there, and that of the key is missing.
abbrev pub FirstMissing : Files → ℕ → ℕ → ℕ → Type 0
FirstMissing files d k i = ((i ≡ d) × (bytes_at files d ≡ None)) ⊎ ((i ≡ k) × IsThere files d × (bytes_at files k ≡ None))

-- The draft's file is asked for first, then the key's, and only then are their bytes asked, the draft before the key. So a missing
-- file is told even where the draft in the other one is spoilt. For an accepted cipher there may be no memory.
abbrev pub CipherRefused : Files → ℕ → ℕ → Unbuilt → Type 0
CipherRefused files d k AboveTop = ⊥
CipherRefused files d k (NoFile i) = FirstMissing files d k i
CipherRefused files d k (Draft i f) = (i ≡ d) × OfFiles files d k (λ draft key. NoneBy draft key (DraftFault f))
CipherRefused files d k (Key i r) = (i ≡ k) × OfFiles files d k (λ draft key. NoneBy draft key (KeyRefused r))
CipherRefused files d k (Pile NoMemory) = (m : Meaning) × IsCipherOf files d k m
CipherRefused files d k (Pile TooHigh) = ⊥

-- A layer cannot be laid exactly where it would stand above the greatest height, or else where there is no memory.
abbrev pub Unlaid : ℕ → Unbuilt → Type 0
Unlaid n AboveTop = ⊥
Unlaid n (NoFile i) = ⊥
Unlaid n (Draft i f) = ⊥
Unlaid n (Key i r) = ⊥
Unlaid n (Pile NoMemory) = n ≤ highest
Unlaid n (Pile TooHigh) = highest < n

-- What is written can be built: it means something, and is no higher than a pile may be.
pub record Buildable (files : Files) (w : Written) : Type 0 where
  pub meaning : Meaning
  pub means : Means files w meaning
  pub low : height w ≤ highest

-- A leaf is refused, or a layer cannot be laid, and it is the first: of a chain the first part is built before the second, and a
-- layer is laid only once all that is below it was built. So no later reason is told, but memory may be wanting at any layer that
-- may be laid, and for any cipher.
abbrev pub Refused : Files → Written → Unbuilt → Type 0
Refused files (Clear t) e = ⊥
Refused files (Plus t k) e = PlusRefused t k e
Refused files (Cipher d k) e = CipherRefused files d k e
Refused files (Chain' p first q then) e =
    Refused files first e
    ⊎ (Buildable files first × Refused files then e)
    ⊎ (Buildable files first × Buildable files then × Unlaid (max (height first) (height then) + 1) e)
Refused files (Turned' p below) e = Refused files below e ⊎ (Buildable files below × Unlaid (height below + 1) e)
Refused files (Narrowed' p below to) e = Refused files below e ⊎ (Buildable files below × Unlaid (height below + 1) e)
