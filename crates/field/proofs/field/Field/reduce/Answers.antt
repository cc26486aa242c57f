use Rattle.std.proofs.Common.{ap, ◌∙◌, arith}
use Rattle.field.specs.Code.{fold}
use Rattle.field.proofs.Values.{tested}
use Rattle.field.proofs.Reducing.{two_folds, folded_small}
use Rattle.field.proofs.field.Field.reduce.Goals as goal

pub fold-requires-2 : goal.fold-requires-2
fold-requires-2 c =
    let f = c.args.self in
    let t = tested f in
    record { within = rw c.fold.ensures (folded_small f.width f.low t.small (omega (arith, t.wide)) f.terms f.spelt f.near c.args.v c.requires.within) }

pub returns : goal.returns
returns c =
    let f = c.args.self in
    let t = tested f in
    let e = c.fold-2.ensures
    ∙ ap (fold f.width f.terms) c.fold.ensures
    ∙ two_folds f.width f.low t.small (omega (arith, t.wide)) f.terms f.spelt f.near c.args.v c.requires.within in
    e
