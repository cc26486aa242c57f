-- The two sides of each of the five laws at one number.
use Rattle.std.specs.Prelude.{◌≡◌, ℕ, min}
use Rattle.meanings.specs.Meaning.{Meaning}
use Rattle.meanings.specs.Layers.{chained, turned, narrowed}
use Rattle.codings.specs.Asking.{coded}
use Rattle.laws.specs.declared.sides.Sides.{Sides}
use Rattle.laws.specs.declared.sides.FiveLaws.{FiveLaws}

abbrev pub sides : Meaning → Meaning → ℕ → Sides
sides l r x = record { left = coded l x; right = coded r x }

-- s has what the codings l and r answer at x, and they answer the same.
pub record Agree (l r : Meaning) (x : ℕ) (s : Sides) : Type 0 where
  pub asked : s ≡ sides l r x
  pub equal : s.left ≡ s.right

pub record Shown (a b c : Meaning) (t u x : ℕ) (s : FiveLaws) : Type 0 where
  pub regrouped : Agree (chained a (chained b c)) (chained (chained a b) c) x s.regrouped
  pub turned_twice : Agree (turned (turned a)) a x s.turned_twice
  pub turned_chain : Agree (turned (chained a b)) (chained (turned b) (turned a)) x s.turned_chain
  pub turned_narrowed : Agree (turned (narrowed t a)) (narrowed t (turned a)) x s.turned_narrowed
  pub narrowed_twice : Agree (narrowed u (narrowed t a)) (narrowed (min t u) a) x s.narrowed_twice
