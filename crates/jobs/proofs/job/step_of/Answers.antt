use Rattle.std.proofs.Common.{sym}
use Rattle.jobs.proofs.Wording.{apart_end, no_words}
use Rattle.jobs.specs.Places.{left_of}
use Rattle.jobs.proofs.job.step_of.Goals as goal

pub returns-in_ok-finish-in-Tally-clause-read : goal.returns-in_ok-finish-in-Tally-clause-read
returns-in_ok-finish-in-Tally-clause-read c =
    let end = c.in_ok-finish-in-Tally.ensures in
    (sym c.in-Tally.is, apart_end (left_of c.args.after) end, no_words (left_of c.args.after) end)
