-- Many numbers through one coding.
use Rattle.std.specs.Prelude.{◌≡◌, ℕ, ◌<◌, ◌≤◌, List, length, map, slice_index}
use Rattle.std.specs.List.{All}
use Rattle.meanings.specs.Meaning.{Meaning}
use Rattle.codings.specs.Asking.{above_top}
use Rattle.clib.specs.declared.refused.Refused.{Refused}
use Rattle.clib.specs.declared.refused.Refused.TheVariants.{Cipher, Number}

-- The number at i is above the top, and none before it is.
pub record FirstAbove (top : ℕ) (xs : List ℕ) (i : ℕ) : Type 0 where
  pub inside : i < length xs
  pub above : top < slice_index xs i
  pub earlier : (j : ℕ) → j < i → slice_index xs j ≤ top

-- All numbers are within the top, and each is replaced by its code.
pub record AllThrough (m : Meaning) (old new : List ℕ) : Type 0 where
  pub within : All (λ x. x ≤ m.top) old
  pub codes : new ≡ map m.rule old

-- The first number above the top is refused, and none is written.
abbrev pub FirstAboveOf : Meaning → (old new : List ℕ) → Refused → Type 0
FirstAboveOf m old new (Cipher why) = ⊥
FirstAboveOf m old new (Number which refusal) = (new ≡ old) × (refusal ≡ above_top) × FirstAbove m.top old which
