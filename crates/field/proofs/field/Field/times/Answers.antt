use Rattle.std.proofs.Common.{arith}
use Rattle.field.proofs.Adding.{term_is, turn, ended}
use Rattle.field.proofs.Values.{tested}
use Rattle.field.proofs.Remainders.{product_leaves}
use Rattle.field.proofs.Reducing.{product_reduces}
use Rattle.field.proofs.field.Field.times.Goals as goal

pub loop-i-preserved : goal.loop-i-preserved
loop-i-preserved c =
    let w = c.args.self.width in
    turn w c.args.a c.args.b c.loop-i.i c.loop-i.sum _ _ (omega arith)
    (term_is w c.args.a c.args.b c.loop-i.i c.args.self.few c.requires.a_within (omega arith)) c.loop-i.invariant

pub returns : goal.returns
returns c =
    let f = c.args.self in
    let t = tested f in
    let e = ended f.width c.args.a c.args.b c.loop-i.i c.loop-i.sum _ c.loop-i-test.false c.loop-i.invariant in
    let reduces = product_reduces f.width f.low t.small (omega (arith, t.wide)) c.args.a c.args.b c.requires.a_within in
    record {
      is = e;
      reduces = rw e reduces;
      leaves = rw (e, reduces) (product_leaves f.width f.low t.small (omega (arith, t.wide)) c.args.a c.args.b c.requires.a_within c.requires.b_within);
    }
