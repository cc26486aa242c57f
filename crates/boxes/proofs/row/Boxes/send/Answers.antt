use Rattle.std.proofs.Common.{◌^◌, ◌<◌, ◌≤◌, length, ap, ◌∙◌, arith}
use Rattle.boxes.specs.Layouts.{layout, widths}
use Rattle.boxes.proofs.Layouts.{layout_cut}
use Rattle.boxes.proofs.Rows.{next, rowed_start, rowed_more, rowed_end, length_widths, bits_widths, shifted, added}
use Rattle.boxes.proofs.row.Boxes.send.Goals as goal

pub loop-i-init : goal.loop-i-init
loop-i-init g c =
    let b = c.args.self.now in
    rowed_start _ b.size (widths (layout b.size)) c.args.x (bits_widths b.size (layout b.size) (layout_cut b.size b.least b.fits))

pub overflow_shl-out : goal.overflow_shl-out
overflow_shl-out g c =
    let l = c.loop-i in
    let same = c.bits-bits.ensures ∙ ap (λ z. z.bits) c.width.ensures in
    let n = next c.args.self.now _ c.args.x l.i l.place l.left l.out c.bits-bits.result _ c.loop-i-test.true c.cell-cell.ensures same l.invariant in
    omega (arith, n.room, c.bits-bits.ensures, c.width.result.some)

pub overflow_add-out : goal.overflow_add-out
overflow_add-out g c =
    let l = c.loop-i in
    let same = c.bits-bits.ensures ∙ ap (λ z. z.bits) c.width.ensures in
    let n = next c.args.self.now _ c.args.x l.i l.place l.left l.out c.bits-bits.result _ c.loop-i-test.true c.cell-cell.ensures same l.invariant in
    let small : c.send.result < 2 ^ c.bits-bits.result = rw same c.send.ensures.small in
    record {
      fits = rw (shifted l.place c.bits-bits.result c.send.result n.room small)
          (added l.place c.bits-bits.result c.send.result l.out n.room small l.invariant.below);
    }

pub loop-i-preserved : goal.loop-i-preserved
loop-i-preserved g c =
    let b = c.args.self.now in
    let l = c.loop-i in
    let same = c.bits-bits.ensures ∙ ap (λ z. z.bits) c.width.ensures in
    let n = next b _ c.args.x l.i l.place l.left l.out c.bits-bits.result _ c.loop-i-test.true c.cell-cell.ensures same l.invariant in
    let small : c.send.result < 2 ^ c.bits-bits.result = rw same c.send.ensures.small in
    rw (shifted l.place c.bits-bits.result c.send.result n.room small)
    (rowed_more _ b.size (widths (layout b.size)) c.args.x l.i l.place l.left l.out c.bits-bits.result c.send.result
    l.invariant n.here n.width (rw same c.send.ensures.is) small)

pub returns : goal.returns
returns g c =
    let b = c.args.self.now in
    let l = c.loop-i in
    let cut = layout_cut b.size b.least b.fits in
    let long = length_widths b.size (layout b.size) cut in
    let all : length (widths (layout b.size)) ≤ l.i = omega (arith, long, b.number, c.loop-i-test.false) in
    let done = rowed_end _ b.size (widths (layout b.size)) c.args.x l.i l.place l.left l.out l.invariant all in
    record { is = done.0; small = done.1 }
