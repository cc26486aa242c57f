use Rattle.std.proofs.Common.{◌%◌, ◌^◌, ap, ◌∙◌}
use Rattle.field.specs.Fields.{inverse}
use Rattle.field.specs.Widths.{low_part}
use Rattle.boxes.specs.Boxes.{flex}
use Rattle.boxes.proofs.cell.Cell.invert.Goals as goal

pub returns-clause-is : goal.returns-clause-is
unfolding flex
returns-clause-is c =
    let f = c.args.self.field in
    c.inverse.ensures.is
    ∙ ap (λ low. inverse f.width low (c.args.x % 2 ^ f.width)) f.known
    ∙ ap (λ m. inverse m (low_part m) (c.args.x % 2 ^ m)) c.args.self.same
