use Rattle.jobs.proofs.Wording.{one_word}
use Rattle.jobs.proofs.job.file_of.Goals as goal

pub returns-clause-read : goal.returns-clause-read
returns-clause-read c = one_word _ _ _ c.requires.over c.in_ok-name.ensures.read c.in_ok-finish.ensures
