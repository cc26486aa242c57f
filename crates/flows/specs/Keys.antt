-- Keys: how long they are, and what is cut from them.
use Rattle.std.specs.Prelude.{ℕ, ◌+◌, ◌-◌, ◌*◌, ◌/◌, List, [], take, true, false, nat_lt, slice_index_or}
use Rattle.bits.specs.Bits.{bit}
use Rattle.bits.specs.Orders.{moved}
use Rattle.bits.specs.Words.{wrapped_sum}
use Rattle.boxes.specs.Boxes.{flex_box, cpa, cpa_back}
use Rattle.flows.specs.Flows.{through_boxes, Kind}
use Rattle.flows.specs.Strings.{byte_bit, number_at}
use Rattle.spelling.specs.declared.parts.Flow.{Flow}
use Rattle.spelling.specs.declared.parts.Flow.TheVariants.{Flex, Cpa}
use Rattle.spelling.specs.declared.parts.Parts.{Parts}

-- The schedule key has 96 bits up to width 32, and else 128.
abbrev pub schedule_bits : ℕ → ℕ
schedule_bits n = elim (nat_lt 32 n) [ true ↦ 128 | false ↦ 96 ]

-- In CPA a randomizer of 6n bits follows it.
abbrev pub random_bits : Flow → ℕ → ℕ
random_bits Flex n = 0
random_bits Cpa n = 6 * n

abbrev pub key_bits : Parts → ℕ
key_bits p = schedule_bits p.width + random_bits p.flow p.width

-- The bytes that these bits fill, and the bits of the last byte that are left over.
abbrev pub key_bytes : Parts → ℕ
key_bytes p = (key_bits p + 7) / 8

abbrev pub spare_bits : Parts → ℕ
spare_bits p = 8 * key_bytes p - key_bits p

-- What stands in the spare bits.
abbrev pub spare : Parts → List ℕ → ℕ
spare p key = number_at (byte_bit key) (key_bits p) (spare_bits p)

-- Order k of a draft, of a size.
abbrev pub order_of : Parts → ℕ → ℕ → List ℕ
order_of p k size = take size (slice_index_or p.orders k [])

-- A cipher wider than 32 bits needs more bits than its key has. They are made of the key's lowest 64: C1 is added modulo 2^64,
-- order 4 moves the sum's bits, the Flex boxes of 64 bits invert, and order 5 moves the bits again.
abbrev pub expanded : Parts → List ℕ → ℕ
expanded p key =
    let u = wrapped_sum 64 (number_at (byte_bit key) 0 64) p.c1 in
    let v = moved (order_of p 4 64) u in
    let w = through_boxes 64 flex_box v in
    moved (order_of p 5 64) w

-- What comes of it stands behind the 128 bits of the schedule key.
abbrev pub with_more : (ℕ → ℕ) → ℕ → ℕ → ℕ
with_more s more i = elim (nat_lt i 128) [ true ↦ s i | false ↦ bit more (i - 128) ]

-- The bits that the round keys are cut from.
abbrev pub schedule : Parts → List ℕ → ℕ → ℕ
schedule p key = elim (nat_lt 32 p.width) [ true ↦ with_more (byte_bit key) (expanded p key) | false ↦ byte_bit key ]

-- K0, K1 and K2 are n bits each, from 0, n and 2n.
abbrev pub round_key : Parts → List ℕ → ℕ → ℕ
round_key p key j = number_at (schedule p key) (j * p.width) p.width

-- The randomizer begins where the schedule key ends.
abbrev pub randomizer : Parts → List ℕ → ℕ → ℕ
randomizer p key i = byte_bit key (schedule_bits p.width + i)

-- A box whose lowest bit is p finds its two parts for round j in the randomizer, n bits apart: r0 begins at bit 2jn + p, and
-- r1 at (2j + 1)n + p.
abbrev pub first_part : ℕ → (ℕ → ℕ) → ℕ → ℕ → ℕ → ℕ
first_part n random j p m = number_at random (2 * j * n + p) m

abbrev pub second_part : ℕ → (ℕ → ℕ) → ℕ → ℕ → ℕ → ℕ
second_part n random j p m = number_at random ((2 * j + 1) * n + p) m

abbrev pub round_box : ℕ → (ℕ → ℕ) → ℕ → Kind
round_box n random j p m x = cpa m (first_part n random j p m) (second_part n random j p m) x

abbrev pub round_box_back : ℕ → (ℕ → ℕ) → ℕ → Kind
round_box_back n random j p m y = cpa_back m (first_part n random j p m) (second_part n random j p m) y

-- The numbers of n bits in which a round's boxes find their random parts, each at its own place.
abbrev pub first_row : ℕ → (ℕ → ℕ) → ℕ → ℕ
first_row n random j = number_at random (2 * j * n) n

abbrev pub second_row : ℕ → (ℕ → ℕ) → ℕ → ℕ
second_row n random j = number_at random ((2 * j + 1) * n) n
