use Rattle.std.proofs.Common.{length, sym, arith}
use Rattle.std.proofs.lemmas.Iterator.{YieldsList-from_slice, YieldsList-from_zip}
use Rattle.std.proofs.lemmas.Iterator.Consumers.{YieldsList-from_enumerate, YieldsList-turn, YieldsList-end}
use Rattle.std.proofs.lemmas.List.{length_push}
use Rattle.std.proofs.lemmas.List.FromFn.{length-enumerate_from}
use Rattle.std.proofs.lemmas.Slice.Zip.{length-zip}
use Rattle.std.proofs.lemmas.Result.{err_from_is_err_and}
use Rattle.std.specs.List.{zip}
use Rattle.release.proofs.Columnwise.{coded_none, coded_one, coded_above, coded_all, column_at}
use Rattle.release.proofs.column_codings.ColumnCodings.coded_row.Goals as goal

pub loop-j-init : goal.loop-j-init
loop-j-init g c = coded_none _ _ _

pub loop-j-preserved : goal.loop-j-preserved
loop-j-preserved g c =
    let columns = c.args.columns.now in
    let pairs = YieldsList-from_enumerate {s = c.into_iter-j-iterator.result} (YieldsList-from_zip (YieldsList-from_slice columns cc) (YieldsList-from_slice c.args.numbers.now cc)) cc in
    let turn = YieldsList-turn pairs c.loop-j.yielded c.loop-j.j-iterator c.loop-j.yielded_by c.next.result c.next.new.self (c.in-Some.j, (c.in-Some.role, c.in-Some.number)) c.in-Some.is c.next.ensures.steps in
    coded_one _ _ _ _ _ _ _ _ _ _ (column_at _ _ _ _ turn) (rw (sym c.as_slice-roles.ensures.roles) c.as_slice-roles.ensures.few) (length_push _ _) c.loop-j.invariant c.in_ok-codes.ensures

pub returns-in_err-codes : goal.returns-in_err-codes
returns-in_err-codes g c =
    let pairs = YieldsList-from_enumerate {s = c.into_iter-j-iterator.result} (YieldsList-from_zip (YieldsList-from_slice c.args.columns.now cc) (YieldsList-from_slice c.args.numbers.now cc)) cc in
    let turn = YieldsList-turn pairs c.loop-j.yielded c.loop-j.j-iterator c.loop-j.yielded_by c.next.result c.next.new.self (c.in-Some.j, (c.in-Some.role, c.in-Some.number)) c.in-Some.is c.next.ensures.steps in
    let p = err_from_is_err_and c.from_residual.result c.from_residual.ensures.1 in
    rw (p.1, p.2) (coded_above _ _ _ _ _ _ _ _ _ (column_at _ _ _ _ turn) c.loop-j.invariant c.in_err-codes.ensures)

pub returns : goal.returns
returns g c =
    let pairs = YieldsList-from_enumerate {s = c.into_iter-j-iterator.result} (YieldsList-from_zip (YieldsList-from_slice c.args.columns.now cc) (YieldsList-from_slice c.args.numbers.now cc)) cc in
    let end = YieldsList-end pairs c.loop-j.yielded c.loop-j.j-iterator c.loop-j.yielded_by c.next.result c.next.new.self c.in-None.is c.next.ensures.steps in
    let size = length-enumerate_from 0 (zip c.args.columns.now c.args.numbers.now) in
    let both = length-zip c.args.columns.now c.args.numbers.now in
    coded_all _ _ _ (length c.loop-j.yielded) _ (omega (arith, end.1)) c.loop-j.invariant
