-- The five laws of piles, and what makes `Same` an equality of codings.
use Rattle.std.specs.Prelude.{ℕ, min}
use Rattle.meanings.specs.Meaning.{Meaning, Lawful, Same, SameBack}
use Rattle.meanings.specs.Layers.{chained, turned, narrowed}

-- The five laws, for the codings a, b and c and the numbers t and u.
pub record Laws (a b c : Meaning) (t u : ℕ) : Type 0 where
  -- in a chain of three it makes no difference which two are taken together
  pub regrouped : Same (chained a (chained b c)) (chained (chained a b) c)
  -- two turns come to none
  pub turned_twice : Same (turned (turned a)) a
  -- a chain is turned by turning its parts and swapping them
  pub turned_chain : Same (turned (chained a b)) (chained (turned b) (turned a))
  -- turning and narrowing to t may be done in either order
  pub turned_narrowed : Same (turned (narrowed t a)) (narrowed t (turned a))
  -- of two narrowings, to t and to u, the smaller bound alone counts
  pub narrowed_twice : Same (narrowed u (narrowed t a)) (narrowed (min t u) a)

-- `Same` is an equivalence, every layer keeps it, and equal codings have equal ways back.
pub record Equality : Type 0 where
  pub reflexive : (a : Meaning) → Same a a
  pub symmetric : (a b : Meaning) → Same a b → Same b a
  pub transitive : (a b c : Meaning) → Same a b → Same b c → Same a c
  pub chain : (a b c d : Meaning) → Same a c → Same b d → Same (chained a b) (chained c d)
  pub turn : (a b : Meaning) → Lawful a → Lawful b → Same a b → Same (turned a) (turned b)
  pub narrow : (t : ℕ) (a b : Meaning) → Lawful a → Lawful b → Same a b → Same (narrowed t a) (narrowed t b)
  pub backs : (a b : Meaning) → Lawful a → Lawful b → Same a b → SameBack a b
