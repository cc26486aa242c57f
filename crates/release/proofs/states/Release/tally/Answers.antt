use Rattle.release.proofs.Done.{tally_done}
use Rattle.release.proofs.states.Release.tally.Goals as goal

pub returns : goal.returns
returns g c = tally_done _ _ _ c.count.ensures
