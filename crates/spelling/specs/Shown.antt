-- The lines that show the parts of a draft.
use Rattle.std.specs.Prelude.{ℕ, ◌+◌, List, [], ◌∷◌, ◌++◌, cond, codes, drop, flat_map, nat_lt, take}
use Rattle.std.specs.Fmt.{decimal}
use Rattle.spelling.specs.declared.parts.Parts.{Parts}
use Rattle.spelling.specs.Flows.{name_of}

-- One entry of an order's list, behind the ones before it.
abbrev pub entry_text : ℕ → List ℕ
entry_text place = codes " " ++ decimal place

-- The order k by its places.
abbrev pub order_text : ℕ → List ℕ → List ℕ
order_text k places = codes "\norder " ++ (decimal k ++ (codes ":" ++ flat_map entry_text places))

-- Some orders, from k on, each by the places that count.
abbrev pub orders_text : ℕ → ℕ → List (List ℕ) → List ℕ
orders_text k size [] = []
orders_text k size (list ∷ lists) = order_text k (take size list) ++ orders_text (k + 1) size lists

-- Above 32 bits C1 has a line.
abbrev pub c1_text : Parts → List ℕ
c1_text p = cond (nat_lt 32 p.width) (codes "\nC1 " ++ decimal p.c1) []

-- Above 32 bits the orders 4 and 5, of 64 bits, have a line each.
abbrev pub wide_orders_text : Parts → List ℕ
wide_orders_text p = cond (nat_lt 32 p.width) (orders_text 4 64 (drop 4 p.orders)) []

-- Width and flow, C0, C1 where the width has a use for it, and the orders: 0 to 3 by as many places as bits.
abbrev pub parts_text : Parts → List ℕ
parts_text p =
    codes "width " ++ (decimal p.width ++ (codes ", flow " ++ (name_of p.flow ++ (codes "\nC0 " ++ (decimal p.c0 ++ (c1_text p ++ (
    orders_text 0 p.width (take 4 p.orders) ++ wide_orders_text p)))))))
