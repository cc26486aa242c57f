use Rattle.std.proofs.Common.{ap, ◌∙◌}
use Rattle.boxes.proofs.row.Boxes.of_width.Goals as goal

pub invariant_of-result-clause-others : goal.invariant_of-result-clause-others
invariant_of-result-clause-others c =
    let made = c.in_ok-shape.ensures in
    λ more. c.wide_of-wide.ensures (made.3.wide more) ∙ ap (λ z. z.wide) made.2
