use Rattle.keys.proofs.Placing.{placed}
use Rattle.keys.proofs.random.random_parts.Goals as goal

pub returns-clause-placed : goal.returns-clause-placed
returns-clause-placed c = placed c.args.draft.now.parts c.args.key.now
