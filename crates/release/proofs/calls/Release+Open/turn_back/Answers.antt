use Rattle.book.proofs.Kept.{coding_lawful}
use Rattle.release.proofs.Done.{turn_back_done}
use Rattle.release.proofs.calls.Release+Open.turn_back.Goals as goal

pub returns : goal.returns
returns g c = turn_back_done _ _ _ (coding_lawful _ (g.Y.Coding.lawful c.args.codings.now.yarn) (g.H.Coding.lawful c.args.codings.now.hands)) _ _ c.turn_code.ensures
