-- What holds of the parts of an accepted draft.
use Rattle.std.specs.Prelude.{◌≡◌, ℕ, ◌^◌, ◌<◌, ◌≤◌, [], length, take, slice_index_or}
use Rattle.bits.specs.Orders.{IsOrder, Sound}
use Rattle.spelling.specs.declared.parts.Parts.{Parts}

-- The width is one of 24 to 64, C0 fits into it, and the lists are orders: 0 to 3 of the width, and above 32 bits 4 and 5 of 64
-- bits.
pub record SoundParts (p : Parts) : Type 0 where
  pub least : 24 ≤ p.width
  pub most : p.width ≤ 64
  pub small : p.c0 < 2 ^ p.width
  pub six : length p.orders ≡ 6
  pub long : (k : ℕ) → k < 6 → length (slice_index_or p.orders k []) ≡ 64
  pub r0 : Sound p.width (slice_index_or p.orders 0 [])
  pub r1 : Sound p.width (slice_index_or p.orders 1 [])
  pub r2 : Sound p.width (slice_index_or p.orders 2 [])
  pub r3 : Sound p.width (slice_index_or p.orders 3 [])
  pub r4 : 32 < p.width → Sound 64 (slice_index_or p.orders 4 [])
  pub r5 : 32 < p.width → Sound 64 (slice_index_or p.orders 5 [])
  -- and so each names every bit below its size once
  pub order0 : IsOrder p.width (take p.width (slice_index_or p.orders 0 []))
  pub order1 : IsOrder p.width (take p.width (slice_index_or p.orders 1 []))
  pub order2 : IsOrder p.width (take p.width (slice_index_or p.orders 2 []))
  pub order3 : IsOrder p.width (take p.width (slice_index_or p.orders 3 []))
  pub order4 : 32 < p.width → IsOrder 64 (take 64 (slice_index_or p.orders 4 []))
  pub order5 : 32 < p.width → IsOrder 64 (take 64 (slice_index_or p.orders 5 []))
