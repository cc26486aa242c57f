-- What the bytes of a draft spell: W and a width, every part that the width needs, once each and in any order, and Z; and the
-- first fault of bytes that spell none.
use Rattle.std.specs.Prelude.{◌≡◌, ℕ, ◌+◌, ◌≤◌, ◌⊎◌, List, [], ◌∷◌, ◌++◌, length, replicate, slice_index_or}
use Rattle.std.specs.List.{AllByRecursion}
use Rattle.spelling.specs.declared.parts.Parts.{Parts}
use Rattle.spelling.specs.declared.command.Part.{Part as PartT}
use Rattle.spelling.specs.declared.command.Part.TheVariants.{Flow, C0, C1, Order}
use Rattle.spelling.specs.declared.fault.Fault.{Fault}
use Rattle.spelling.specs.declared.fault.Reason.{Reason}
use Rattle.spelling.specs.declared.fault.Reason.TheVariants.{GoesOn}
use Rattle.spelling.specs.Commands.{index_of, number}
use Rattle.spelling.specs.Items.{Item, written, Right, Once, Given, Needed}
use Rattle.spelling.specs.Faulty.{NoAtStart, NoLater}

-- What a draft has of an item.
abbrev pub Holds : Parts → PartT → List ℕ → Type 0
Holds p (Flow f) os = p.flow ≡ f
Holds p C0 os = p.c0 ≡ number os
Holds p C1 os = p.c1 ≡ number os
Holds p (Order k) os = slice_index_or p.orders (index_of k) [] ≡ os

abbrev pub Has : Parts → Item → Type 0
Has p i = Holds p i.part i.operand

-- The bytes spell a draft.
pub record Spells (bytes : List ℕ) (p : Parts) : Type 0 where
  pub least : 24 ≤ p.width
  pub most : p.width ≤ 64
  pub items : List Item
  pub is : bytes ≡ 87 ∷ (p.width ∷ (written items ++ (90 ∷ [])))
  pub right : AllByRecursion (Right p.width) items
  pub once : Once items
  pub all : (k : ℕ) → Needed p.width k → Given k items
  pub has : AllByRecursion (Has p) items
  pub six : length p.orders ≡ 6
  pub unused : p.width ≤ 32 → (p.c1 ≡ 0) × (slice_index_or p.orders 4 [] ≡ replicate 64 0) × (slice_index_or p.orders 5 [] ≡ replicate 64 0)

-- Where a fault is told whose command stands at an offset: there, and what follows Z at the byte behind it.
abbrev pub told_at : Reason → ℕ → ℕ
told_at GoesOn at = at + 1
told_at why at = at

-- The first command is at fault.
pub record FirstAtStart (bytes : List ℕ) (f : Fault) : Type 0 where
  pub offset : f.offset ≡ 0
  pub no : NoAtStart bytes f.reason

-- W, a width and some items are right, no part is there twice, and the command that stands behind them is at fault.
pub record FirstLater (bytes : List ℕ) (f : Fault) : Type 0 where
  pub n : ℕ
  pub least : 24 ≤ n
  pub most : n ≤ 64
  pub items : List Item
  pub rest : List ℕ
  pub is : bytes ≡ 87 ∷ (n ∷ (written items ++ rest))
  pub right : AllByRecursion (Right n) items
  pub once : Once items
  pub offset : f.offset ≡ told_at f.reason (2 + length (written items))
  pub no : NoLater n items rest f.reason

-- A fault is the first no: everything before its command is right, and the command is not.
abbrev pub FirstNo : List ℕ → Fault → Type 0
FirstNo bytes f = FirstAtStart bytes f ⊎ FirstLater bytes f
