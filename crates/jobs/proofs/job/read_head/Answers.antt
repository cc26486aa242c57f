use Rattle.std.proofs.Common.{sym, subst, arith}
use Rattle.std.proofs.lemmas.Iterator.Consumers.{YieldsList-at, YieldsList-so_far, YieldsList-turn, YieldsList-end}
use Rattle.std.proofs.lemmas.Iterator.Splits.{YieldsList-from_lines}
use Rattle.std.proofs.lemmas.List.{length_push, map_push}
use Rattle.std.proofs.lemmas.Result.{err_from_is_err_and}
use Rattle.jobs.specs.Heads.{RightSoFar}
use Rattle.jobs.proofs.Heading.{line_spoilt, head_step, head_end}
use Rattle.jobs.proofs.job.read_head.Goals as goal

pub returns-in_err-take_line : goal.returns-in_err-take_line
returns-in_err-take_line c =
    let road = YieldsList-at c.into_iter-line-iterator.ensures.into_iter_gives (YieldsList-from_lines c.args.text.now c.lines-line-items.ensures.rest) in
    let turn = YieldsList-turn road c.loop-line.yielded _ c.loop-line.yielded_by _ _ c.in-Some.line c.in-Some.is c.next.ensures.steps in
    let before = YieldsList-so_far road c.loop-line.yielded _ c.loop-line.yielded_by in
    let p = err_from_is_err_and c.from_residual.result c.from_residual.ensures.1 in
    rw (p.1, p.2) (line_spoilt _ _ _ _ _ c.in-Some.line.now _ c.loop-line.invariant.good c.loop-line.invariant.count before turn c.in_err-take_line.ensures)

pub returns-then-branch : goal.returns-then-branch
returns-then-branch c =
    let road = YieldsList-at c.into_iter-line-iterator.ensures.into_iter_gives (YieldsList-from_lines c.args.text.now c.lines-line-items.ensures.rest) in
    let turn = YieldsList-turn road c.loop-line.yielded _ c.loop-line.yielded_by _ _ c.in-Some.line c.in-Some.is c.next.ensures.steps in
    let before = YieldsList-so_far road c.loop-line.yielded _ c.loop-line.yielded_by in
    head_step _ _ _ _ _ _ c.in-Some.line.now _ c.loop-line.invariant.good c.loop-line.invariant.count before turn (rw c.if-branch.true at c.in_ok-take_line.ensures)
    c.head.ensures

pub loop-line-preserved : goal.loop-line-preserved
loop-line-preserved c =
    let taken = rw c.if-branch.false at c.in_ok-take_line.ensures in
    let size = length_push c.loop-line.yielded c.in-Some.line in
    record {
      count = omega (arith, size, c.loop-line.invariant.count);
      good = subst (λ z. RightSoFar z c.take_line.new.self) (sym (map_push (λ x. x.now) c.loop-line.yielded c.in-Some.line)) (taken _ c.loop-line.invariant.good);
    }

pub returns : goal.returns
returns c =
    let road = YieldsList-at c.into_iter-line-iterator.ensures.into_iter_gives (YieldsList-from_lines c.args.text.now c.lines-line-items.ensures.rest) in
    let end = YieldsList-end road c.loop-line.yielded _ c.loop-line.yielded_by _ _ c.in-None.is c.next.ensures.steps in
    head_end _ _ _ _ _ _ c.loop-line.invariant.good c.loop-line.invariant.count end c.head-2.ensures
