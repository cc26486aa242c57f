use Rattle.std.proofs.Common.{sym, ◌∙◌}
use Rattle.jobs.proofs.Rowing.{field_number}
use Rattle.jobs.proofs.Squeezed.{filled}
use Rattle.jobs.proofs.row.field.Goals as goal

pub returns-else-is_empty : goal.returns-else-is_empty
returns-else-is_empty c =
    let gap = c.past_spaces-here.ensures in
    let word = c.word.ensures in
    field_number c.args.cursor c.past_spaces-here.result c.word.result.1 c.word.result.0.now c.number.result c.number.ensures.read c.number.ensures.fault gap.after gap.at word.is word.whole
    (filled _ (sym c.is_empty.ensures ∙ c.if-is_empty.false))
