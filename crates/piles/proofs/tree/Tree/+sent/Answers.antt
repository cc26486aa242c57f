-- The loop of the narrowed arm; the other arms need nothing.
use Rattle.std.proofs.Common.{ap, arith, rules}
use Rattle.piles.specs.Trees.{layers, tree_meaning}
use Rattle.piles.proofs.Ways.{way_begins, way_again, way_less}
use Rattle.piles.proofs.tree.Tree.+sent.Goals as goal

pub loop-y-init : goal.loop-y-init
loop-y-init g t c =
    let p = layers g.C.Coding.means g.C.Coding.lawful c.in-Narrowed.below.value in
    let is = ap (tree_meaning g.C.Coding.means g.C.Coding.lawful) c.in-Narrowed.is in
    let top_below = rw c.deref-in-Narrowed.ensures at c.top.ensures in
    let answer = rw c.deref-in-Narrowed-2.ensures at c.in_ok-y-in-Narrowed.ensures in
    way_begins c.args.way c.in-Narrowed.to c.top.result c.narrowed_top-top.result p _ is top_below c.narrowed_top-top.ensures c.args.x (search rules) c.in_ok-y-in-Narrowed.y answer

pub loop-y-smaller : goal.loop-y-smaller
loop-y-smaller g t c =
    let p = layers g.C.Coding.means g.C.Coding.lawful c.in-Narrowed.below.value in
    let is = ap (tree_meaning g.C.Coding.means g.C.Coding.lawful) c.in-Narrowed.is in
    let top_below = rw c.deref-in-Narrowed.ensures at c.top.ensures in
    let answer = rw c.deref-in-loop-y.ensures at c.in_ok-y-in-Narrowed-2.ensures in
    way_less c.args.way c.in-Narrowed.to c.top.result c.narrowed_top-top.result p _ is top_below c.narrowed_top-top.ensures c.args.x (search rules) c.loop-y.y c.in_ok-y-in-Narrowed-2.y (omega arith) answer c.loop-y.invariant

pub loop-y-preserved : goal.loop-y-preserved
loop-y-preserved g t c =
    let p = layers g.C.Coding.means g.C.Coding.lawful c.in-Narrowed.below.value in
    let is = ap (tree_meaning g.C.Coding.means g.C.Coding.lawful) c.in-Narrowed.is in
    let top_below = rw c.deref-in-Narrowed.ensures at c.top.ensures in
    let answer = rw c.deref-in-loop-y.ensures at c.in_ok-y-in-Narrowed-2.ensures in
    way_again c.args.way c.in-Narrowed.to c.top.result c.narrowed_top-top.result p _ is top_below c.narrowed_top-top.ensures c.args.x (search rules) c.loop-y.y c.in_ok-y-in-Narrowed-2.y (omega arith) answer c.loop-y.invariant
