use Rattle.std.proofs.Common.{rules, ◌≡◌, length, Err, sym, ap, arith}
use Rattle.std.proofs.lemmas.List.{get_or_read}
use Rattle.std.proofs.lemmas.Result.{err_from_is_err_and}
use Rattle.book.specs.Roles.{role_read}
use Rattle.release.proofs.Letters.{read_none, read_one, columns_good, columns_bad}
use Rattle.release.proofs.columns.Columns.read.Goals as goal

pub loop-j-init : goal.loop-j-init
loop-j-init c = read_none _

-- `letter` is there for the search, here and below: which role letter j reads as
pub loop-j-preserved : goal.loop-j-preserved
loop-j-preserved c =
    let letter = ap role_read (get_or_read c.args.letters.now c.loop-j.j c.index-letters-j.result (omega arith) c.index-letters-j.is 0) in
    read_one _ _ _ _ (omega arith) (omega arith) c.loop-j.invariant (search rules)

pub returns-in_err-roles-clause-answer : goal.returns-in_err-roles-clause-answer
returns-in_err-roles-clause-answer c =
    let letter = ap role_read (get_or_read c.args.letters.now c.loop-j.j c.index-letters-j.result (omega arith) c.index-letters-j.is 0) in
    let p = err_from_is_err_and c.from_residual.result c.from_residual.ensures.1 in
    let bad = columns_bad _ _ _ c.in_err-roles.field-0.0 c.if-count-eq0.false c.if-count-gt8.false (omega arith) c.loop-j.invariant (search rules) in
    rw (bad, p.1) (ap Err p.2)

pub invariant_of-result : goal.invariant_of-result
invariant_of-result c =
    let same : length c.args.letters.now ≡ c.loop-j.j = omega arith in
    (c.loop-j.invariant.eight, c.if-count-gt8.false, rw same c.loop-j.invariant.clear)

pub returns-clause-answer : goal.returns-clause-answer
returns-clause-answer c =
    sym (columns_good _ c.loop-j.j c.loop-j.roles c.if-count-eq0.false c.if-count-gt8.false (omega arith) (omega arith) c.loop-j.invariant)
