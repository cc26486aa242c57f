use Rattle.release.proofs.Done.{opened}
use Rattle.release.proofs.Promised.{ran_from}
use Rattle.release.proofs.lists.open_and_call.Goals as goal

pub returns : goal.returns
returns g c = ran_from _ _ _ _ _ _ _ _ _ (opened _ _ _ _ c.in_ok-plain.ensures c.blank_all.ensures) c.call_each.ensures
