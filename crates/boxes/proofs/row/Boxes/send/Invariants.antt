use Rattle.boxes.specs.Layouts.{layout, widths}
use Rattle.boxes.proofs.Rows.{Rowed}
use Rattle.boxes.proofs.row.Boxes.send.Given as goal

abbrev pub invariant-loop-i : goal.invariant-loop-i
invariant-loop-i g l = Rowed (g.K.BoxKind.does l.kind) l.self.size (widths (layout l.self.size)) l.x l.i l.place l.left l.out
