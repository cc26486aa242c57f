use Rattle.std.proofs.Common.{◌≡◌, min, arith, rules}
use Rattle.codings.proofs.Answering.{walk_begins, walk_again, walk_less}
use Rattle.codings.proofs.narrowed.first_within.Goals as goal

pub loop-y-init : goal.loop-y-init
loop-y-init g c =
    let m = g.A.Coding.means c.args.below.now in
    let new : c.narrowed_top-top.result ≡ min c.args.to m.top = search rules in
    walk_begins c.args.to _ m (g.A.Coding.lawful c.args.below.now) new c.args.x (search rules) _ c.in_ok-y.ensures

pub loop-y-smaller : goal.loop-y-smaller
loop-y-smaller g c =
    let m = g.A.Coding.means c.args.below.now in
    let new : c.narrowed_top-top.result ≡ min c.args.to m.top = search rules in
    walk_less c.args.to _ m (g.A.Coding.lawful c.args.below.now) new c.args.x (search rules) c.loop-y.y _ (omega arith) c.in_ok-y-2.ensures c.loop-y.invariant.0

pub loop-y-preserved : goal.loop-y-preserved
loop-y-preserved g c =
    let m = g.A.Coding.means c.args.below.now in
    let new : c.narrowed_top-top.result ≡ min c.args.to m.top = search rules in
    walk_again c.args.to _ m (g.A.Coding.lawful c.args.below.now) new c.args.x (search rules) c.loop-y.y _ (omega arith) c.in_ok-y-2.ensures c.loop-y.invariant.0
