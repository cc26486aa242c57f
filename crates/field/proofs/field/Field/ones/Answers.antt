use Rattle.std.proofs.Common.{arith}
use Rattle.field.proofs.Values.{tested}
use Rattle.field.proofs.Chaining.{reached_first, reached_half, reached_next, reached_same, reached_last, ones_root}
use Rattle.field.proofs.field.Field.ones.Goals as goal

pub loop-i-init : goal.loop-i-init
loop-i-init c =
    let f = c.args.self in
    let t = tested f in
    reached_first f.width f.low t.small (omega (arith, t.wide)) c.args.k c.args.a c.requires.few

pub longer-power-requires-clause-half_is : goal.longer-power-requires-clause-half_is
longer-power-requires-clause-half_is c =
    let f = c.args.self in
    let t = tested f in
    reached_half f.width f.low t.small (omega (arith, t.wide)) c.args.k c.args.a c.loop-i.i c.loop-i.power c.loop-i-test.true c.if-k-i-gt1.true c.loop-i.invariant

pub loop-i-preserved-then-k-i-gt1 : goal.loop-i-preserved-then-k-i-gt1
loop-i-preserved-then-k-i-gt1 c =
    let f = c.args.self in
    let t = tested f in
    reached_next f.width f.low t.small (omega (arith, t.wide)) c.args.k c.args.a c.loop-i.i c.longer-power.result c.if-k-i-gt1.true c.longer-power.ensures

pub loop-i-preserved : goal.loop-i-preserved
loop-i-preserved c =
    let f = c.args.self in
    let t = tested f in
    reached_same f.width f.low t.small (omega (arith, t.wide)) c.args.k c.args.a c.loop-i.i c.loop-i.power c.requires.within c.loop-i-test.true (omega (arith, c.if-k-i-gt1.false)) c.loop-i.invariant

pub returns : goal.returns
returns c =
    let f = c.args.self in
    let t = tested f in
    let e = reached_last f.width f.low t.small (omega (arith, t.wide)) c.args.k c.args.a c.loop-i.i c.loop-i.power c.requires.some c.loop-i-test.false c.loop-i.invariant in
    record { is = e; root = ones_root f.width f.low t c.args.k c.args.a _ c.requires.within e }
