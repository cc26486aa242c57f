-- The numbers of a setting of the code, and that they fit together.
use Rattle.std.proofs.Common.{◌≡◌, ◌≤◌, subst}
use Rattle.bits.specs.Listed.{order}
use Rattle.bits.specs.Orders.{IsOrder}
use Rattle.bits.specs.declared.order.Order.{Order}
use Rattle.bits.specs.declared.width.Width.{Width}
use Rattle.flows.specs.Flows.{Setting as Numbers}
use Rattle.flows.proofs.Flows.{Fits, order_is}
use Rattle.kcipher.specs.declared.setting.Setting.{Setting}

abbrev pub numbers : Setting → Numbers
numbers s = record {
  width = s.width.bits;
  c0 = s.c0;
  order0 = order s.order0;
  order1 = order s.order1;
  order2 = order s.order2;
  order3 = order s.order3;
  k0 = s.k0;
  k1 = s.k1;
  k2 = s.k2;
}

sized : (w : Width) (o : Order) → o.size.bits ≡ w.bits → IsOrder w.bits (order o)
sized w o e = subst (λ z. IsOrder z (order o)) e (order_is o)

pub fits : (s : Setting) → Fits (numbers s)
fits s =
    record {
      least = subst (λ z. 24 ≤ z) s.whole s.boxes.least;
      most = subst (λ z. z ≤ 64) s.whole s.boxes.fits;
      o0 = sized s.width s.order0 s.sized0;
      o1 = sized s.width s.order1 s.sized1;
      o2 = sized s.width s.order2 s.sized2;
      o3 = sized s.width s.order3 s.sized3;
      small = s.small;
    }
