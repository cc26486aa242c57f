-- What an order is by its fields.
use Rattle.std.specs.Prelude.{ℕ, List, take}
use Rattle.bits.specs.declared.order.Order.{Order}

-- The places that count, which are as many as the size says.
abbrev pub order : Order → List ℕ
order o = take o.size.bits o.places
