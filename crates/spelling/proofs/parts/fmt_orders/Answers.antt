use Rattle.std.proofs.Common.{◌+◌, ◌++◌, ◌∙◌, true, refl, ap, take, arith}
use Rattle.std.proofs.lemmas.Grind.{put_two}
use Rattle.spelling.specs.Shown.{order_text, orders_text}
use Rattle.spelling.proofs.Shown.{orders_more}
use Rattle.spelling.proofs.parts.fmt_orders.Goals as goal

pub loop-k-preserved : goal.loop-k-preserved
loop-k-preserved g c p =
    let before = c.loop-k.invariant p in
    put_two _ _ _ _ _ (order_text (c.args.from + c.loop-k.k) c.used.result.now) _ before (c.in_ok-fmt_order.ensures before.plain (refl {a = true}))
    (ap (λ z. orders_text c.args.from c.args.size (take c.loop-k.k c.args.lists.now) ++ order_text (c.args.from + c.loop-k.k) z) c.used.ensures
    ∙ orders_more c.args.from c.args.size c.args.lists.now c.loop-k.k (omega (arith, c.loop-k-test.true)))
