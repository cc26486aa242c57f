use Rattle.release.proofs.Done.{show_done}
use Rattle.release.proofs.states.Release.show.Goals as goal

pub returns : goal.returns
returns g c = show_done _ _ _ _ c.show_code.ensures
