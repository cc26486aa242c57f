-- What laying a layer on a pile gives.
use Rattle.std.specs.Prelude.{◌≡◌, ℕ, ◌+◌, ◌<◌, ◌≤◌, max, Ok, Err, Result}
use Rattle.meanings.specs.Meaning.{Meaning, Lawful, EachOnce}
use Rattle.meanings.specs.Layers.{IsChain, IsTurned, IsNarrowed}
use Rattle.meanings.specs.Piles.{leaf, chain_of, turn_of, narrow_of}
use Rattle.piles.specs.Trees.{layers, tree_meaning, height_of}
use Rattle.piles.specs.declared.tree.Tree.{Tree}
use Rattle.piles.specs.declared.error.PileError.{PileError}
use Rattle.piles.specs.declared.error.PileError.TheVariants.{NoMemory, TooHigh}

-- The greatest height of a pile. A number goes through a pile by a recursion as deep as the pile is high,
-- so the limit keeps a pile within any stack.
abbrev pub highest : ℕ
highest = 1000

-- Made, with a height of n, and P holds of it; or too high, exactly where n is above the greatest height;
-- or there was no memory for it.
abbrev pub Stacked : {X : Type 0} → ℕ → Result X PileError → (X → Type 0) → Type 0
Stacked n (Ok p) P = (n ≤ highest) × P p
Stacked n (Err NoMemory) P = n ≤ highest
Stacked n (Err TooHigh) P = highest < n

-- What is known of a tree p that was made of others: its layers and its height, what it means in the words
-- of the subject, and that it uses each number up to its top exactly once as a code.
module _ {C : Type 0} (means : C → Meaning) (lawful : (c : C) → Lawful (means c)) where
  pub record LeafMade (c : C) (p : Tree C) : Type 0 where
    pub pile : layers means lawful p ≡ leaf (means c) (lawful c)
    pub tall : height_of p ≡ 1
    pub once : EachOnce (tree_meaning means lawful p)

  -- p is the chain of a and b
  pub record ChainMade (a b p : Tree C) : Type 0 where
    pub pile : layers means lawful p ≡ chain_of (layers means lawful a) (layers means lawful b)
    pub tall : height_of p ≡ max (height_of a) (height_of b) + 1
    pub rule : IsChain (tree_meaning means lawful a) (tree_meaning means lawful b) (tree_meaning means lawful p)
    pub once : EachOnce (tree_meaning means lawful p)

  -- p is a turned
  pub record TurnedMade (a p : Tree C) : Type 0 where
    pub pile : layers means lawful p ≡ turn_of (layers means lawful a)
    pub tall : height_of p ≡ height_of a + 1
    pub rule : IsTurned (tree_meaning means lawful a) (tree_meaning means lawful p)
    pub once : EachOnce (tree_meaning means lawful p)

  -- p is a narrowed to t
  pub record NarrowedMade (t : ℕ) (a p : Tree C) : Type 0 where
    pub pile : layers means lawful p ≡ narrow_of t (layers means lawful a)
    pub tall : height_of p ≡ height_of a + 1
    pub rule : IsNarrowed t (tree_meaning means lawful a) (tree_meaning means lawful p)
    pub once : EachOnce (tree_meaning means lawful p)
