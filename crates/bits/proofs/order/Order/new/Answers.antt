use Rattle.std.proofs.Common.{refl, arith}
use Rattle.bits.proofs.Orders.{sound_order}
use Rattle.bits.proofs.order.Order.new.Goals as goal

pub returns-in-None : goal.returns-in-None
returns-in-None c =
    let n = c.args.size.bits in
    let sound = c.in-None.ensures in
    (refl, refl, sound, sound_order n c.args.places (omega arith) sound)
