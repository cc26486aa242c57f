-- The test of a field, computed once over the table of widths.
use Rattle.std.proofs.Common.{◌≡◌, ℕ, ◌<◌, Bool, true, false, eqb, List, [], ◌∷◌, refl, ap, ◌∙◌, arith}
use Rattle.std.proofs.lemmas.Bool.{and_parts, eqb-true}
use Rattle.field.specs.Polynomials.{along}
use Rattle.field.specs.Fields.{twice, squared, trace, traces_small, some_trace, good}
use Rattle.field.specs.Widths.{low_parts, low_in, low_part, all_good}
use Rattle.field.proofs.Inverses.{Tested, tested}

pub parts_good : all_good low_parts ≡ true
unfolding good squared along twice trace traces_small some_trace
parts_good = refl

known_good : (ps : List (ℕ × ℕ)) → all_good ps ≡ true → (m : ℕ) → 0 < low_in ps m → good m (low_in ps m) ≡ true
known_good [] g m h = absurd (omega arith)
known_good (p ∷ ps) g m h = go (eqb m p.0) refl h (known_good ps)
  where
    parts : (good p.0 p.1 ≡ true) × (all_good ps ≡ true)
    parts = and_parts (good p.0 p.1) (all_good ps) g

    go : (t : Bool) → eqb m p.0 ≡ t → 0 < elim t [ true ↦ p.1 | false ↦ low_in ps m ]
        → (all_good ps ≡ true → (m : ℕ) → 0 < low_in ps m → good m (low_in ps m) ≡ true)
        → good m (elim t [ true ↦ p.1 | false ↦ low_in ps m ]) ≡ true
    go true e l rest = ap (λ z. good z p.1) (eqb-true m p.0 e) ∙ parts.0
    go false e l rest = rest parts.1 m l

-- a width that has a low part has a field
pub field_good : (m low : ℕ) → low ≡ low_part m → 0 < low → Tested m low
field_good m low e h = tested m low (rw e (known_good low_parts parts_good m (rw e at h)))
