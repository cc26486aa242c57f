use Rattle.book.proofs.Kept.{coding_lawful}
use Rattle.release.proofs.Done.{call_done}
use Rattle.release.proofs.calls.Release+Open.call.Goals as goal

pub returns : goal.returns
returns g c =
    let made = c.made.ensures in
    call_done _ _ _ (coding_lawful _ (g.Y.Coding.lawful c.args.codings.now.yarn) (g.H.Coding.lawful c.args.codings.now.hands)) _ _ _ _ made.answer made.state made.release
