use Rattle.std.proofs.Common.{sym, ◌∙◌, arith}
use Rattle.jobs.proofs.Squeezed.{past_space, spaces_more, spaces_until, spaces_all}
use Rattle.jobs.proofs.Wording.{past_gap}
use Rattle.jobs.proofs.cursor.count_spaces.Goals as goal

pub loop-i-preserved : goal.loop-i-preserved
loop-i-preserved c =
    let space = sym c.is_space.ensures ∙ c.if-not-is_space.false in
    record {
      blank = past_space c.args.bytes.now c.loop-i.i c.loop-i-test.true space ∙ c.loop-i.invariant.blank;
      first = spaces_more c.args.bytes.now c.loop-i.i c.loop-i-test.true space c.loop-i.invariant.first;
      apart = past_gap c.args.bytes.now c.loop-i.i c.loop-i-test.true space ∙ c.loop-i.invariant.apart;
    }

pub returns-then-not-is_space-clause-is : goal.returns-then-not-is_space-clause-is
returns-then-not-is_space-clause-is c =
    spaces_until c.args.bytes.now c.loop-i.i c.loop-i-test.true (sym c.is_space.ensures ∙ c.if-not-is_space.true) c.loop-i.invariant.first

pub returns-clause-is : goal.returns-clause-is
returns-clause-is c = spaces_all c.args.bytes.now c.loop-i.i (omega (arith, c.loop-i-test.false)) c.loop-i.invariant.first
