-- Piles of codings, and what holds of every one.
use Rattle.std.specs.Prelude.{ℕ}
use Rattle.meanings.specs.Meaning.{Meaning, Lawful, Same, SameBack, EachOnce}
use Rattle.meanings.specs.Layers.{chained, turned, narrowed, IsChain, IsTurned, IsNarrowed}
use Rattle.meanings.specs.Laws.{Laws, Equality}

-- Piles: a lawful coding by itself is one, and a layer makes one of others: it chains two of them, or turns or narrows one.
pub data Pile : Type 0 where
  leaf : (m : Meaning) → Lawful m → Pile
  chain_of : Pile → Pile → Pile
  turn_of : Pile → Pile
  narrow_of : ℕ → Pile → Pile

-- What a pile means, by its layers.
abbrev pub meaning : Pile → Meaning
meaning (leaf m l) = m
meaning (chain_of p q) = chained (meaning p) (meaning q)
meaning (turn_of p) = turned (meaning p)
meaning (narrow_of t p) = narrowed t (meaning p)

-- What holds of every pile. The first three fields say in the words of the subject which top and rule
-- each layer has; then: a pile is a lawful coding and uses each number up to its top exactly once as a
-- code; the five laws; and what makes the equality in them one.
pub record EveryPile : Type 0 where
  pub chain : (p q : Pile) → IsChain (meaning p) (meaning q) (meaning (chain_of p q))
  pub turn : (p : Pile) → IsTurned (meaning p) (meaning (turn_of p))
  pub narrow : (t : ℕ) (p : Pile) → IsNarrowed t (meaning p) (meaning (narrow_of t p))
  pub lawful : (p : Pile) → Lawful (meaning p)
  pub once : (p : Pile) → EachOnce (meaning p)
  pub laws : (p q r : Pile) (t u : ℕ) → Laws (meaning p) (meaning q) (meaning r) t u
  pub equality : Equality

-- The same of any three codings a, b and c and any two numbers t and u.
pub record AnyThree (a b c : Meaning) (t u : ℕ) : Type 0 where
  pub chain : IsChain a b (chained a b)
  pub turn : IsTurned a (turned a)
  pub narrow : IsNarrowed t a (narrowed t a)
  pub once : EachOnce a
  pub chain_once : EachOnce (chained a b)
  pub turn_once : EachOnce (turned a)
  pub narrow_once : EachOnce (narrowed t a)
  pub laws : Laws a b c t u
  pub same_reflexive : Same a a
  pub same_symmetric : Same a b → Same b a
  pub same_transitive : Same a b → Same b c → Same a c
  pub same_chain : Same a b → Same (chained a c) (chained b c) × Same (chained c a) (chained c b)
  pub same_turn : Same a b → Same (turned a) (turned b)
  pub same_narrow : Same a b → Same (narrowed t a) (narrowed t b)
  pub same_back : Same a b → SameBack a b
