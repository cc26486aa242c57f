use Rattle.jobs.proofs.Wording.{two_words}
use Rattle.jobs.proofs.job.entry_of.Goals as goal

pub returns-clause-read : goal.returns-clause-read
returns-clause-read c =
    let row = c.in_ok-row.ensures.read in
    let column = c.in_ok-column.ensures.read in
    let said = two_words _ _ _ _ _ c.requires.over row.word column.word c.in_ok-finish.ensures in
    (said.0, record { row = row.digits; column = column.digits; is = said.1; row_is = row.number; column_is = column.number })
