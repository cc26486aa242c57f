use Rattle.bits.proofs.Words.{taken}
use Rattle.bits.proofs.width.Width.sub.Goals as goal

pub returns : goal.returns
returns c = taken c.args.self.bits c.args.a c.args.b _ c.args.self.fits c.ranges.b.fits c.cut.ensures
