use Rattle.meanings.proofs.Lawful.{each_once}
use Rattle.laws.proofs.back_and_there.Goals as goal

pub returns-in_err-back-clause-once : goal.returns-in_err-back-clause-once
returns-in_err-back-clause-once g c = each_once _ (g.C.Coding.lawful c.args.coding.now)

pub returns-clause-once : goal.returns-clause-once
returns-clause-once g c = each_once _ (g.C.Coding.lawful c.args.coding.now)
