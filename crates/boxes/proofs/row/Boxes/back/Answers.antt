use Rattle.boxes.specs.Layouts.{layout}
use Rattle.boxes.proofs.Layouts.{layout_cut}
use Rattle.boxes.proofs.Rows.{rows_undone}
use Rattle.boxes.proofs.row.Boxes.back.Goals as goal

pub returns-clause-undone : goal.returns-clause-undone
returns-clause-undone g c =
    let b = c.args.self.now in
    rows_undone b.size (layout b.size) (layout_cut b.size b.least b.fits) _ _ (g.met.K.Invertible.inverts c.args.kind.now)
