-- The parts of a draft as they are written, and which of them are right.
use Rattle.std.specs.Prelude.{◌≡◌, ℕ, ◌^◌, ◌<◌, true, ◌⊎◌, List, [], ◌∷◌, ◌++◌, length, ◌≢◌}
use Rattle.std.specs.List.{AllByRecursion}
use Rattle.bits.specs.Orders.{Sound}
use Rattle.spelling.specs.declared.command.Part.{Part as PartT}
use Rattle.spelling.specs.declared.command.Part.TheVariants.{Flow, C0, C1, Order}
use Rattle.spelling.specs.declared.command.Command.TheVariants.{Part}
use Rattle.spelling.specs.Commands.{index_of, letter_of, place_of, part_operands, has_use, wide_place, number, order_size}

-- A part as it is written: F or P; A or B and eight bytes; a digit and 64 bytes.
pub record Item : Type 0 where
  pub part : PartT
  pub operand : List ℕ

abbrev pub written : List Item → List ℕ
written [] = []
written (i ∷ is) = (letter_of i.part ∷ i.operand) ++ written is

-- What must hold of an operand: C0 is below 2^n, and in the list of an order no place is at fault.
abbrev pub Fits : ℕ → PartT → List ℕ → Type 0
Fits n (Flow f) os = Unit {0}
Fits n C0 os = number os < 2 ^ n
Fits n C1 os = Unit {0}
Fits n (Order k) os = Sound (order_size n (index_of k)) os

-- The width has a use for the part, its operand is of its length, and it fits.
pub record Right (n : ℕ) (i : Item) : Type 0 where
  pub useful : has_use n (Part i.part) ≡ true
  pub long : length i.operand ≡ part_operands i.part
  pub fits : Fits n i.part i.operand

-- A part is not among the items; F and P count as one.
abbrev pub New : PartT → List Item → Type 0
New p is = AllByRecursion (λ i. place_of i.part ≢ place_of p) is

-- No part twice.
abbrev pub Once : List Item → Type 0
Once [] = Unit {0}
Once (i ∷ is) = New i.part is × Once is

-- A part of a place is among the items.
abbrev pub Given : ℕ → List Item → Type 0
Given k [] = ⊥
Given k (i ∷ is) = (place_of i.part ≡ k) ⊎ Given k is

-- The nine places but those of C1 and the orders 4 and 5 are needed always, and these above 32 bits.
abbrev pub Needed : ℕ → ℕ → Type 0
Needed n k = (k < 9) × (wide_place k ≡ true → 32 < n)
