use Rattle.std.proofs.Common.{◌≡◌, ◌<◌, ap, ◌∙◌, refl, inl, get_or, length, subst, arith}
use Rattle.jobs.proofs.Reading.{name_at, lacking_next, placed_new, placed_named, placed_grown}
use Rattle.jobs.proofs.parse.place_of.Goals as goal

pub returns-then-eq-clause-named : goal.returns-then-eq-clause-named
returns-then-eq-clause-named c =
    let items = c.deref-known-items.ensures.value in
    name_at c.args.names.now.items c.loop-place.place c.known-item.result c.as_str.result.now c.args.name.now _
    (subst (λ z. c.loop-place.place < length z) items c.loop-place-test.true)
    (c.known-item.is ∙ ap (λ z. get_or z c.loop-place.place c.known-item.result) items)
    c.as_str.ensures.value
    c.eq.ensures
    c.if-eq.true

pub returns-then-eq-clause-placed : goal.returns-then-eq-clause-placed
returns-then-eq-clause-placed c = inl (returns-then-eq-clause-named c, refl)

pub loop-place-preserved : goal.loop-place-preserved
loop-place-preserved c =
    let items = c.deref-known-items.ensures.value in
    record {
      lacking = lacking_next c.args.names.now.items c.loop-place.place c.known-item.result c.as_str.result.now c.args.name.now _
          (subst (λ z. c.loop-place.place < length z) items c.loop-place-test.true)
          (c.known-item.is ∙ ap (λ z. get_or z c.loop-place.place c.known-item.result) items)
          c.as_str.ensures.value
          c.eq.ensures
          c.if-eq.false
          c.loop-place.invariant.lacking;
    }

pub returns-clause-placed : goal.returns-clause-placed
returns-clause-placed c =
    let items = c.deref-known-items.ensures.value in
    let long : length c.deref-known-items.result.now ≡ length c.args.names.now.items = ap length items in
    placed_new c.args.names.now.items c.push.new.self.items c.in_ok-from_str.field-0 c.args.name.now _ c.loop-place.place c.in_ok-push.ensures.items c.in_ok-from_str.ensures.ok (c.len-place.ensures ∙ c.args.names.now.ok.0) (omega (arith, c.loop-place-test.false, long))
    c.loop-place.invariant.lacking

pub returns-clause-named : goal.returns-clause-named
returns-clause-named c = placed_named _ _ _ _ (returns-clause-placed c)

pub returns-clause-grown : goal.returns-clause-grown
returns-clause-grown c = placed_grown _ _ _ _ (returns-clause-placed c)
