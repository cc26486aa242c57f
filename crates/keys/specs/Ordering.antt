-- The orders 0 to 3 of a draft.
use Rattle.std.specs.Prelude.{◌≡◌}
use Rattle.bits.specs.Listed.{order}
use Rattle.flows.specs.Keys.{order_of}
use Rattle.keys.specs.declared.orders.Orders.{Orders}
use Rattle.spelling.specs.declared.parts.Parts.{Parts}

-- Each is the list of the draft, and as long as its width.
pub record OrdersOf (p : Parts) (o : Orders) : Type 0 where
  pub size0 : o.order0.size.bits ≡ p.width
  pub size1 : o.order1.size.bits ≡ p.width
  pub size2 : o.order2.size.bits ≡ p.width
  pub size3 : o.order3.size.bits ≡ p.width
  pub is0 : order o.order0 ≡ order_of p 0 p.width
  pub is1 : order o.order1 ≡ order_of p 1 p.width
  pub is2 : order o.order2 ≡ order_of p 2 p.width
  pub is3 : order o.order3 ≡ order_of p 3 p.width
