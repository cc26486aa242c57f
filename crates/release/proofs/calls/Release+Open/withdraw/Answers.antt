use Rattle.std.proofs.Common.{refl}
use Rattle.release.proofs.Done.{withdraw_done}
use Rattle.release.proofs.calls.Release+Open.withdraw.Goals as goal

pub returns : goal.returns
returns c = record { done = withdraw_done _ _ _ _ _ c.withdraw_row.ensures.answer c.withdraw_row.ensures.memory; release = refl }
