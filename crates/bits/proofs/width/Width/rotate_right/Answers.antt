use Rattle.bits.proofs.Words.{turns_right}
use Rattle.bits.proofs.width.Width.rotate_right.Goals as goal

pub returns : goal.returns
returns c = turns_right c.args.self.bits c.args.k c.args.x _ c.args.self.some c.turn.ensures
