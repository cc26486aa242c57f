use Rattle.jobs.proofs.Wording.{one_word}
use Rattle.jobs.proofs.job.row_of.Goals as goal

pub returns-clause-read : goal.returns-clause-read
returns-clause-read c =
    let read = c.in_ok-row.ensures.read in
    let said = one_word _ _ _ c.requires.over read.word c.in_ok-finish.ensures in
    (said.0, (read.digits, said.1, read.number))
