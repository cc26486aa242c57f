use Rattle.release.proofs.Done.{put_done}
use Rattle.release.proofs.calls.Release+Open.put.Goals as goal

pub returns : goal.returns
returns g c = put_done _ _ _ _ _ _ _ c.put_row.ensures.answer c.put_row.ensures.release c.put_row.ensures.memory
