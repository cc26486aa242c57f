use Rattle.std.proofs.Common.{rules, ◌∙◌, of_calls}
use Rattle.std.proofs.lemmas.Iterator.{YieldsList-from_map}
use Rattle.std.proofs.lemmas.Iterator.Consumers.{YieldsList-at, sum_from_yields_List, fits_from_yields_list}
use Rattle.std.proofs.lemmas.Iterator.Adapters.{serves_from_places}
use Rattle.bits.proofs.Numbered.{numbered}
use Rattle.bits.proofs.Orders.{sent, shifts, sent_sum, sent_fits, applied}
use Rattle.bits.proofs.order.Order.apply.Goals as goal

pub sum-requires-clause-can : goal.sum-requires-clause-can
sum-requires-clause-can c =
    let s = c.args.self.now.size in
    let used = c.used.result.now in (
      search of_calls,
      serves_from_places (YieldsList-at c.map.ensures.source (numbered used (cc) (cc)))
          (λ p q k. search rules)
          (λ p k h e. let both = shifts s.bits used c.used.ensures.order s.fits k (p.0, p.1.now) h e in search rules),
    )

pub sum-requires-clause-fits : goal.sum-requires-clause-fits
sum-requires-clause-fits c =
    let s = c.args.self.now.size in
    let used = c.used.result.now in
    fits_from_yields_list c.map.result _
    (YieldsList-from_map _ (sent c.args.x) (YieldsList-at c.map.ensures.source (numbered used (cc) (cc))) c.map.ensures.closure (λ p r q k. search rules))
    (sent_fits s.bits used c.used.ensures.order s.fits c.args.x)

pub returns : goal.returns
returns c =
    let s = c.args.self.now.size in
    let used = c.used.result.now in
    let all = sum_from_yields_List c.map.result c.sum.result c.sum.ensures.ran
    (YieldsList-from_map _ (sent c.args.x) (YieldsList-at c.map.ensures.source (numbered used (cc) (cc))) c.map.ensures.closure (λ p r q k. search rules)) in
    rw (← c.used.ensures.is) (applied s.bits used c.used.ensures.order c.args.x c.sum.result (all ∙ sent_sum s.bits used c.used.ensures.order s.fits c.args.x))
