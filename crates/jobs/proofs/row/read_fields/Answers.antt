use Rattle.std.proofs.Common.{◌≡◌, [], ◌∷◌, ◌++◌, ap, sym, subst, ◌∙◌}
use Rattle.std.proofs.lemmas.Result.{err_from_is_err_and}
use Rattle.jobs.specs.Places.{rest_of}
use Rattle.jobs.specs.Rows.{Row}
use Rattle.jobs.specs.Signs.{squeezed}
use Rattle.jobs.specs.declared.cursor.Source.{Source}
use Rattle.jobs.proofs.Faults.{all_left}
use Rattle.jobs.proofs.Rowing.{so_far_all, so_far_more, after_self, on_line, stood_more, stood_all, field_wrong, comma_wrong, row_memory}
use Rattle.jobs.proofs.Squeezed.{at_the_end, none_left}
use Rattle.jobs.proofs.Wording.{left_some}
use Rattle.jobs.proofs.row.read_fields.Goals as goal

pub returns-then-is_end : goal.returns-then-is_end
returns-then-is_end c =
    let push : c.push.new.self.items ≡ c.loop-next.numbers.items ++ (c.in_ok-next.next ∷ []) = rw c.if-is_err.ensures.negation at c.push.ensures.items in
    let start = c.new-cursor.result in
    let on = on_line _ c.args.number _ start c.loop-next.cursor c.new.result c.new.ensures.bytes c.new.ensures.start c.new-cursor.ensures.source c.loop-next.invariant.same c.loop-next.invariant.stood in
    let text : rest_of start ≡ squeezed c.args.line.now = ap squeezed (all_left start c.new.result _ c.new-cursor.ensures.at c.new-cursor.ensures.source c.new.ensures.bytes) in
    let end = c.past_spaces.result in
    let gap = c.past_spaces.ensures in
    let over = sym c.is_end.ensures ∙ c.if-is_end.true in (
      subst (λ z. Row z c.push.new.self.items) text
          (so_far_all _ _ _ _ _ _ _ c.loop-next.invariant.so_far c.in_ok-next.ensures push gap.after (at_the_end end.source.bytes.now end.at over)),
      stood_all c.args.line.now c.args.number _ _ c.loop-next.cursor c.in_ok-next.after end _ on.0 on.1 c.in_ok-next.ensures c.in_ok-next.ensures.after.same gap.after.same gap.at
          (none_left end.source.bytes.now end.at over) push,
    )

pub loop-next-preserved : goal.loop-next-preserved
loop-next-preserved c =
    let push : c.push.new.self.items ≡ c.loop-next.numbers.items ++ (c.in_ok-next.next ∷ []) = rw c.if-is_err.ensures.negation at c.push.ensures.items in
    let field = c.in_ok-next.ensures in
    let comma = c.in_ok-cursor.ensures in
    record {
      same = comma.read.same ∙ field.after.same ∙ c.loop-next.invariant.same;
      so_far = so_far_more _ _ _ _ _ _ _ _ c.loop-next.invariant.so_far field push (after_self c.in_ok-next.after) comma.read;
      stood = stood_more _ _ _ c.loop-next.cursor c.in_ok-next.after c.in_ok-cursor.cursor _ (ap (λ (z : Source). z.bytes.now) c.loop-next.invariant.same) c.loop-next.invariant.stood field field.after.same comma.on push;
    }

pub returns-in_err-next : goal.returns-in_err-next
returns-in_err-next c =
    let on = on_line _ c.args.number _ c.new-cursor.result c.loop-next.cursor c.new.result c.new.ensures.bytes c.new.ensures.start c.new-cursor.ensures.source c.loop-next.invariant.same c.loop-next.invariant.stood in
    let p = err_from_is_err_and c.from_residual.result c.from_residual.ensures.1 in
    rw (p.1, p.2) (field_wrong c.args.line.now c.args.number _ c.loop-next.cursor _ on.0 on.1 c.in_err-next.ensures)

pub returns-then-is_err : goal.returns-then-is_err
returns-then-is_err c =
    let on = on_line _ c.args.number _ c.new-cursor.result c.loop-next.cursor c.new.result c.new.ensures.bytes c.new.ensures.start c.new-cursor.ensures.source c.loop-next.invariant.same c.loop-next.invariant.stood in
    row_memory c.args.line.now c.args.number _ c.loop-next.cursor _ on.0 on.1 c.bad.ensures

pub returns-in_err-cursor : goal.returns-in_err-cursor
returns-in_err-cursor c =
    let on = on_line _ c.args.number _ c.new-cursor.result c.loop-next.cursor c.new.result c.new.ensures.bytes c.new.ensures.start c.new-cursor.ensures.source c.loop-next.invariant.same c.loop-next.invariant.stood in
    let end = c.past_spaces.result in
    let gap = c.past_spaces.ensures in
    let more = left_some end.source.bytes.now end.at end.within (sym c.is_end.ensures ∙ c.if-is_end.false) in
    let p = err_from_is_err_and c.from_residual-in_err-cursor.result c.from_residual-in_err-cursor.ensures.1 in
    rw (p.1, p.2)
    (comma_wrong c.args.line.now c.args.number _ c.loop-next.cursor c.in_ok-next.after end _ _ on.0 on.1 c.in_ok-next.ensures c.in_ok-next.ensures.after.same gap.after.same gap.at more
    c.in_err-cursor.ensures.fault.0)
