use Rattle.boxes.proofs.Rows.{row_at}
use Rattle.boxes.proofs.layout.boxes_of.Goals as goal

pub returns : goal.returns
returns c =
    let row = c.in_ok-row in
    rw c.copied.ensures (row_at c.get.result c.args.width row.row row.ensures.0 row.ensures.1 c.get.ensures.lookup.0 c.get.ensures.lookup.1)
