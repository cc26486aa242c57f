use Rattle.std.proofs.Common.{ap, ◌∙◌}
use Rattle.bits.specs.Words.{wrapped_sum, turned_left}
use Rattle.boxes.proofs.Sent.{sent_is}
use Rattle.boxes.proofs.kind.CpaBoxKind.send.Goals as goal

pub returns-clause-is : goal.returns-clause-is
returns-clause-is c =
    let m = c.args.cell.width.bits in
    let w = ap (λ z. z.bits) c.width-width.ensures in
    let parts = c.at-r0.result in
    rw (← c.at-r0.ensures.0, ← c.at-r0.ensures.1)
    (sent_is m parts.r0 parts.r1 c.args.x _ _ _ c.invert.ensures.is
    (c.add.ensures.value ∙ ap (λ z. wrapped_sum z c.invert.result parts.r1) w)
    (c.rotate_left.ensures.value ∙ ap (λ z. turned_left z 2 c.add.result) w))
