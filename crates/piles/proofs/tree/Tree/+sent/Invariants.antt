use Rattle.meanings.proofs.Walking.{left}
use Rattle.piles.specs.Trees.{facing, tree_meaning}
use Rattle.piles.proofs.Ways.{GoesOn}
use Rattle.piles.proofs.tree.Tree.+sent.Given as goal

abbrev pub invariant-loop-y : goal.invariant-loop-y
invariant-loop-y g l =
    GoesOn l.top (facing l.way (tree_meaning g.C.Coding.means g.C.Coding.lawful l.below.value))
    (facing l.way (tree_meaning g.C.Coding.means g.C.Coding.lawful l.self))
    l.x
    l.y

abbrev pub decreases-loop-y : goal.decreases-loop-y
decreases-loop-y g l = left l.top (facing l.way (tree_meaning g.C.Coding.means g.C.Coding.lawful l.below.value)) l.y
