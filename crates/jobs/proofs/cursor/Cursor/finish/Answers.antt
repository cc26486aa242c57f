use Rattle.std.proofs.Common.{sym, ◌∙◌}
use Rattle.jobs.proofs.Faults.{blames}
use Rattle.jobs.proofs.Squeezed.{at_the_end}
use Rattle.jobs.proofs.Wording.{left_some}
use Rattle.jobs.proofs.cursor.Cursor.finish.Goals as goal

pub returns-then-is_end : goal.returns-then-is_end
returns-then-is_end c =
    let here = c.past_spaces-here.result in
    c.past_spaces-here.ensures.after.text ∙ at_the_end here.source.bytes.now here.at (sym c.is_end.ensures ∙ c.if-is_end.true)

pub returns-else-is_end : goal.returns-else-is_end
returns-else-is_end c =
    let gap = c.past_spaces-here.ensures in
    let here = c.past_spaces-here.result in
    blames c.args.self here _ _ gap.after gap.at c.bad.ensures
    (gap.flush, left_some here.source.bytes.now here.at here.within (sym c.is_end.ensures ∙ c.if-is_end.false))
