use Rattle.std.proofs.Common.{◌≡◌, ◌+◌, ◌/◌, ap, ◌∙◌, arith}
use Rattle.field.specs.Fields.{ones}
use Rattle.field.proofs.Values.{tested}
use Rattle.field.proofs.Chaining.{ones_even, ones_odd}
use Rattle.field.proofs.field.Field.longer.Goals as goal

pub returns-then-k-eq0 : goal.returns-then-k-eq0
returns-then-k-eq0 c =
    let f = c.args.self in
    let t = tested f in
    let whole : c.args.k / 2 + c.args.k / 2 ≡ c.args.k = omega (arith, c.if-k-eq0.true) in
    ones_even f.width f.low t.small (omega (arith, t.wide)) c.args.k c.args.a _ _ _ c.requires.within c.requires.half_is c.squared.ensures c.product-even.ensures.is
    ∙ ap (λ z. ones f.width f.low z c.args.a) whole

pub returns-else-k-eq0 : goal.returns-else-k-eq0
returns-else-k-eq0 c =
    let f = c.args.self in
    let t = tested f in
    let even = ones_even f.width f.low t.small (omega (arith, t.wide)) c.args.k c.args.a _ _ _ c.requires.within c.requires.half_is c.squared.ensures c.product-even.ensures.is in
    ones_odd f.width f.low t.small (omega (arith, t.wide)) c.args.k c.args.a _ _ _ c.if-k-eq0.false even c.square.ensures c.product.ensures.is
