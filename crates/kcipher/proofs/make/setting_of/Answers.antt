use Rattle.std.proofs.Common.{rules}
use Rattle.kcipher.proofs.Made.{keyed_small}
use Rattle.kcipher.proofs.make.setting_of.Goals as goal

pub invariant_of-result : goal.invariant_of-result
invariant_of-result c = let small = keyed_small c.args.draft.now.parts c.args.key.now c.args.keys c.requires.keyed in search rules
