use Rattle.std.proofs.Common.{arith}
use Rattle.field.proofs.Values.{tested}
use Rattle.field.proofs.Chaining.{squared_none, squared_next}
use Rattle.field.proofs.field.Field.squared.Goals as goal

pub loop-init : goal.loop-init
loop-init c =
    let f = c.args.self in
    let t = tested f in
    squared_none f.width f.low t.small (omega (arith, t.wide)) c.args.a

pub loop-preserved : goal.loop-preserved
loop-preserved c =
    let f = c.args.self in
    let t = tested f in
    squared_next f.width f.low t.small (omega (arith, t.wide)) c.loop.counter c.args.a c.loop.power _ c.loop.invariant c.square-power.ensures
