use Rattle.std.proofs.Common.{◌%◌, ◌^◌, ◌<◌, ap, ◌∙◌}
use lib.Bits.{xor_lt}
use Rattle.std.proofs.lemmas.Nat.{pow_pos, mod_below}
use Rattle.bits.specs.Words.{wrapped_difference, turned_right}
use Rattle.boxes.proofs.Sent.{sent_back_is}
use Rattle.boxes.proofs.kind.CpaInvertible.back.Goals as goal

pub returns : goal.returns
returns c =
    let m = c.args.cell.width.bits in
    let w = ap (λ z. z.bits) c.width-width.ensures in
    let parts = c.at-r0.result in
    let cut = c.cut.ensures ∙ ap (λ z. parts.r0 % 2 ^ z) w in
    let below : c.cut.result < 2 ^ m = rw cut (mod_below parts.r0 (2 ^ m) (pow_pos m)) in
    record {
      is = rw (← c.at-r0.ensures.0, ← c.at-r0.ensures.1)
          (sent_back_is m parts.r0 parts.r1 c.args.y _ _ _ _
          (c.rotate_right.ensures.value ∙ ap (λ z. turned_right z 2 c.args.y) w)
          (c.sub.ensures.value ∙ ap (λ z. wrapped_difference z c.rotate_right.result parts.r1) w)
          c.invert.ensures.is cut);
      small = xor_lt m c.invert.result c.cut.result c.invert.ensures.small below;
    }
