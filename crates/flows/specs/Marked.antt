-- The twelve marked cases, one table, and what each says.
use Rattle.std.specs.Prelude.{◌≡◌, ℕ, zero, suc, ◌+◌, ◌-◌, ◌*◌, ◌/◌, ◌%◌, true, false, List, [], ◌∷◌, ◌++◌, map, replicate, nat_lt}
use Rattle.std.specs.List.{AllByRecursion}
use Rattle.boxes.specs.Boxes.{flex, cpa}
use Rattle.boxes.specs.Layouts.{layout}
use Rattle.bits.specs.Orders.{moved}
use Rattle.flows.specs.declared.case.Claim.{Claim}
use Rattle.flows.specs.declared.case.Claim.TheVariants.{Boxes, Sends}
use Rattle.flows.specs.declared.case.Plain.{Plain}
use Rattle.flows.specs.declared.case.Rule.{Rule}
use Rattle.flows.specs.declared.case.Rule.TheVariants.{Inverse, CpaBox, ThreeTurned, Cipher, Narrowed, Chained}
use Rattle.flows.specs.declared.case.Shift.{Shift}
use Rattle.flows.specs.Keys.{key_bytes}
use Rattle.flows.specs.Published.{encrypt}
use Rattle.meanings.specs.Layers.{chained, narrowed}
use Rattle.meanings.specs.Meaning.{Meaning}
use Rattle.meanings.specs.Supplied.{plus}
use Rattle.spelling.specs.declared.parts.Flow.TheVariants.{Flex, Cpa}
use Rattle.spelling.specs.declared.parts.Parts.{Parts}

-- k numbers from i on
unfoldable pub counted : ℕ → ℕ → List ℕ
counted i zero = []
counted i (suc k) = i ∷ counted (i + 1) k

-- The order that sends each of n bits to itself, with zeros up to 64 places.
abbrev pub each_to_itself : ℕ → List ℕ
each_to_itself n = counted 0 n ++ replicate (64 - n) 0

-- Bit 8a + c goes to 8c + a.
abbrev pub crossing : List ℕ
crossing = map (λ i. 8 * (i % 8) + i / 8) (counted 0 64)

-- The orders of 64 bits, which are zero where the width has no use for them.
abbrev pub if_used : Plain → List ℕ
if_used p = elim (nat_lt 32 p.width) [ true ↦ each_to_itself 64 | false ↦ replicate 64 0 ]

abbrev pub plain_parts : Plain → Parts
plain_parts p = record {
  width = p.width;
  flow = p.flow;
  c0 = 0;
  c1 = p.c1;
  orders =
      each_to_itself p.width
      ∷ (elim p.crossed [ true ↦ crossing | false ↦ each_to_itself p.width ])
      ∷ each_to_itself p.width
      ∷ each_to_itself p.width
      ∷ if_used p
      ∷ if_used p
      ∷ [];
}

abbrev pub plain_key : Plain → List ℕ
plain_key p = p.first ∷ replicate (key_bytes (plain_parts p) - 1) 0

abbrev pub shift : Shift → Meaning
shift s = plus s.top s.k

abbrev pub applied : Rule → ℕ → ℕ
applied (Inverse m) x = flex m x
applied (CpaBox m r0 r1) x = cpa m r0 r1 x
applied (ThreeTurned n) x = moved (1 ∷ 2 ∷ 0 ∷ counted 3 (n - 3)) x
applied (Cipher p) x = encrypt (plain_parts p) (plain_key p) x
applied (Narrowed s t) x = (narrowed t (shift s)).rule x
applied (Chained a b) x = (chained (shift a) (shift b)).rule x

-- A claim holds where the definitions give what it says.
abbrev pub Holds : Claim → Type 0
Holds (Boxes n shape) = layout n ≡ shape
Holds (Sends rule x result) = applied rule x ≡ result

-- All claims of a case do.
abbrev pub AllHold : List Claim → Type 0
AllHold claims = AllByRecursion Holds claims

abbrev pub plain : ℕ → Rule
plain first = Cipher (record { width = 25; flow = Flex; first = first; c1 = 0; crossed = false })

abbrev pub plain_cpa : Rule
plain_cpa = Cipher (record { width = 25; flow = Cpa; first = 0; c1 = 0; crossed = false })

abbrev pub crossed_flex : Rule
crossed_flex = Cipher (record { width = 64; flow = Flex; first = 0; c1 = 2; crossed = true })

abbrev pub narrowed_shift : Rule
narrowed_shift = Narrowed (record { top = 7; k = 3 }) 4

abbrev pub chained_shifts : Rule
chained_shifts = Chained (record { top = 3; k = 1 }) (record { top = 7; k = 1 })

-- Twelve cases, each the list of its claims.
abbrev pub marked : List (List Claim)
marked =
    -- the inverse of 2 at three widths
    (Sends (Inverse 5) 2 18 ∷ Sends (Inverse 14) 2 8208 ∷ Sends (Inverse 25) 2 16777220 ∷ [])
    -- the inverse of 53h is CAh
    ∷ (Sends (Inverse 8) 83 202 ∷ [])
    -- the CPA box of width 5
    ∷ (Sends (CpaBox 5 0 15) 2 4 ∷ [])
    ∷ (Sends (CpaBox 5 0 24) 0 3 ∷ [])
    -- three boxes of 8; one of 25; eight of 8
    ∷ (Boxes 24 (record { wide = 8; last = 8; count = 3 })
    ∷ Boxes 25 (record { wide = 25; last = 25; count = 1 })
    ∷ Boxes 64 (record { wide = 8; last = 8; count = 8 })
    ∷ [])
    -- a box of 10 and two of 8; a box of 14 and five of 9
    ∷ (Boxes 26 (record { wide = 8; last = 10; count = 3 }) ∷ Boxes 59 (record { wide = 9; last = 14; count = 6 }) ∷ [])
    -- the order 1, 2, 0
    ∷ (Sends (ThreeTurned 24) 1 2 ∷ Sends (ThreeTurned 24) 4 1 ∷ [])
    -- ciphers
    ∷ (Sends (plain 1) 0 1 ∷ Sends (plain 1) 33554431 0 ∷ [])
    ∷ (Sends plain_cpa 1 9586998 ∷ [])
    ∷ (Sends crossed_flex 0 141 ∷ Sends crossed_flex 1 140 ∷ Sends crossed_flex 2 72057594054770828 ∷ [])
    -- plus (top 7, k 3) narrowed to 4
    ∷ (Sends narrowed_shift 0 3 ∷ Sends narrowed_shift 1 4 ∷ Sends narrowed_shift 2 0 ∷ Sends narrowed_shift 3 1 ∷ Sends narrowed_shift 4 2 ∷ [])
    -- plus (3, 1) chained with plus (7, 1)
    ∷ (Sends chained_shifts 3 1 ∷ Sends chained_shifts 5 6 ∷ Sends chained_shifts 7 0 ∷ [])
    ∷ []
