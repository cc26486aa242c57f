use Rattle.std.proofs.Common.{◌^◌, ◌≤◌, ◌∙◌, arith, pow_mono}
use Rattle.field.proofs.Values.{tested}
use Rattle.field.proofs.Spreading.{steps_spread, spread_lt, spread_reduces}
use Rattle.field.proofs.field.Field.spread.Goals as goal

pub returns : goal.returns
returns c =
    let f = c.args.self in
    let a = c.args.a in
    let t = tested f in
    let wider : 2 ^ f.width ≤ 2 ^ 32 = pow_mono f.few in
    let e = c.spaced_out.ensures ∙ steps_spread a (omega (arith, wider, c.requires.within)) in
    record {
      small = rw e (spread_lt f.width f.low t.small (omega (arith, t.wide)) f.few a c.requires.within);
      reduces = rw e (spread_reduces f.width f.low t.small (omega (arith, t.wide)) f.few a c.requires.within);
    }
