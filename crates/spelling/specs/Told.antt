-- What an answer of the reader tells.
use Rattle.std.specs.Prelude.{◌≡◌, ℕ, List, Result, MatchResult}
use Rattle.spelling.specs.declared.fault.Fault.{Fault}
use Rattle.spelling.specs.declared.parts.Parts.{Parts}
use Rattle.spelling.specs.Sound.{SoundParts}
use Rattle.spelling.specs.Spelling.{Spells, FirstNo}

-- No draft is spelt by the bytes.
abbrev pub Unspelt : List ℕ → Type 0
Unspelt bytes = (p : Parts) → Spells bytes p → ⊥

-- The bytes spell this draft, which is sound; they spell no other and have no fault.
pub record TheDraft (bytes : List ℕ) (p : Parts) : Type 0 where
  pub spells : Spells bytes p
  pub sound : SoundParts p
  pub only : (q : Parts) → Spells bytes q → q ≡ p
  pub faultless : (f : Fault) → FirstNo bytes f → ⊥

-- The bytes have this first fault and no other, and spell no draft.
pub record TheFault (bytes : List ℕ) (f : Fault) : Type 0 where
  pub first : FirstNo bytes f
  pub only : (g : Fault) → FirstNo bytes g → g ≡ f
  pub unspelt : Unspelt bytes

-- A draft is found exactly where the bytes spell one, and it is that one; else their fault.
abbrev pub Told : List ℕ → Result Parts Fault → Type 0
Told bytes r = MatchResult r (TheDraft bytes) (TheFault bytes)
