-- What a pile that is put together at run time means: the pile that its layers make.
use Rattle.std.specs.Prelude.{ℕ, ◌+◌, max}
use Rattle.meanings.specs.Meaning.{Meaning, Lawful}
use Rattle.meanings.specs.Layers.{turned}
use Rattle.meanings.specs.Piles.{Pile, leaf, chain_of, turn_of, narrow_of, meaning}
use Rattle.piles.specs.declared.tree.Tree.{Tree}
use Rattle.piles.specs.declared.tree.Tree.TheVariants.{Leaf, Chain', Turned', Narrowed'}
use Rattle.piles.specs.declared.tree.Way.{Way}
use Rattle.piles.specs.declared.tree.Way.TheVariants.{There, Back}

-- A tree is the pile of its layers over what its leaves mean. (A case with boxes names each in two
-- parts: what it holds stands second.)
abbrev pub layers : {C : Type 0} → (means : C → Meaning) → ((c : C) → Lawful (means c)) → Tree C → Pile
layers means lawful (Leaf c) = leaf (means c) (lawful c)
layers means lawful (Chain' p first q then) = chain_of (layers means lawful first) (layers means lawful then)
layers means lawful (Turned' p below) = turn_of (layers means lawful below)
layers means lawful (Narrowed' p below to) = narrow_of to (layers means lawful below)

abbrev pub tree_meaning : {C : Type 0} → (means : C → Meaning) → ((c : C) → Lawful (means c)) → Tree C → Meaning
tree_meaning means lawful s = meaning (layers means lawful s)

-- A coding met on the way there is itself, and on the way back it is turned.
abbrev pub facing : Way → Meaning → Meaning
facing There m = m
facing Back m = turned m

abbrev pub other_way : Way → Way
other_way There = Back
other_way Back = There

-- How many layers stand above one another, a leaf counting 1.
abbrev pub height_of : {C : Type 0} → Tree C → ℕ
height_of (Leaf c) = 1
height_of (Chain' p first q then) = max (height_of first) (height_of then) + 1
height_of (Turned' p below) = height_of below + 1
height_of (Narrowed' p below to) = height_of below + 1
