-- What an expansion answers, and what the random parts of CPA are.
use Rattle.std.specs.Prelude.{◌≡◌, ℕ, ◌+◌, ◌*◌, ◌<◌, ◌≤◌, List, [], ◌∷◌, Some, None, Result, MatchResult}
use Rattle.boxes.specs.Boxes.{cut}
use Rattle.boxes.specs.declared.kind.Cpa.{Cpa}
use Rattle.spelling.specs.declared.parts.Parts.{Parts}
use Rattle.flows.specs.Keys.{schedule, round_key, randomizer, first_row, second_row, first_part, second_part}
use Rattle.flows.specs.Strings.{byte_bit}
use Rattle.keys.specs.declared.expand.RoundKeys.{RoundKeys}
use Rattle.keys.specs.declared.refusal.KeyRefusal.{KeyRefusal}
use Rattle.keys.specs.Asking.{asked}

-- The three round keys of a key.
abbrev pub Keyed : Parts → List ℕ → RoundKeys → Type 0
Keyed p key k = (k.k0 ≡ round_key p key 0) × (k.k1 ≡ round_key p key 1) × (k.k2 ≡ round_key p key 2)

-- The round keys where every question is answered yes, and else the refusal of the first no.
abbrev pub Expanded : Parts → List ℕ → ℕ → Result RoundKeys KeyRefusal → Type 0
Expanded p key room r = MatchResult r (λ k. (asked p key room ≡ None) × Keyed p key k) (λ e. asked p key room ≡ Some e)

-- The bits that the three round keys are cut from stand in the bytes.
abbrev pub Scheduled : Parts → List ℕ → List ℕ → Type 0
Scheduled p key bytes = (i : ℕ) → i < 3 * p.width → byte_bit bytes i ≡ schedule p key i

-- The random parts of a round's boxes, each at its own place.
abbrev pub random_row : Parts → List ℕ → ℕ → Cpa
random_row p key j = record { r0 = first_row p.width (randomizer p key) j; r1 = second_row p.width (randomizer p key) j }

-- A box that stands on bits q and up, m of them, finds the two parts of the key's bits that are its own there.
pub record Placed (p : Parts) (key : List ℕ) (j : ℕ) : Type 0 where
  pub first : (q m : ℕ) → q + m ≤ p.width → cut (random_row p key j).r0 q m ≡ first_part p.width (randomizer p key) j q m
  pub second : (q m : ℕ) → q + m ≤ p.width → cut (random_row p key j).r1 q m ≡ second_part p.width (randomizer p key) j q m

abbrev pub random_rows : Parts → List ℕ → List Cpa
random_rows p key = random_row p key 0 ∷ random_row p key 1 ∷ random_row p key 2 ∷ []
