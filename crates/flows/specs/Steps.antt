-- The steps of the cipher, each a coding of its own, and the chains that they make.
use Rattle.std.specs.Prelude.{ℕ, ◌-◌, ◌^◌, List, bit_xor}
use Rattle.bits.specs.Orders.{moved, gathered}
use Rattle.bits.specs.Words.{wrapped_sum, wrapped_difference}
use Rattle.boxes.specs.Boxes.{flex_box}
use Rattle.meanings.specs.Layers.{chained}
use Rattle.meanings.specs.Meaning.{Meaning}
use Rattle.flows.specs.Flows.{Setting, Kind, through_boxes}

-- A coding of all numbers of n bits.
abbrev pub block : ℕ → (ℕ → ℕ) → (ℕ → ℕ) → Meaning
block n does undoes = record { top = 2 ^ n - 1; rule = does; back = undoes }

abbrev pub added : ℕ → ℕ → Meaning
added n k = block n (λ x. wrapped_sum n x k) (λ y. wrapped_difference n y k)

abbrev pub reordered : ℕ → List ℕ → Meaning
reordered n r = block n (moved r) (gathered r)

abbrev pub substituted : ℕ → Kind → Kind → Meaning
substituted n f g = block n (through_boxes n f) (through_boxes n g)

abbrev pub masked : ℕ → ℕ → Meaning
masked n k = block n (λ x. bit_xor x k) (λ y. bit_xor y k)

-- Flex in ten steps.
abbrev pub flex_steps : Setting → Meaning
flex_steps s =
    let n = s.width in
    chained (added n s.c0) (
    chained (added n s.k0) (
    chained (reordered n s.order0) (
    chained (substituted n flex_box flex_box) (
    chained (reordered n s.order1) (
    chained (added n s.k1) (
    chained (reordered n s.order2) (
    chained (substituted n flex_box flex_box) (
    chained (reordered n s.order3) (masked n s.k2)))))))))

-- CPA in eleven.
abbrev pub cpa_steps : Setting → (f0 f1 f2 g0 g1 g2 : Kind) → Meaning
cpa_steps s f0 f1 f2 g0 g1 g2 =
    let n = s.width in
    chained (added n s.c0) (
    chained (added n s.k0) (
    chained (reordered n s.order0) (
    chained (substituted n f0 g0) (
    chained (added n s.k1) (
    chained (reordered n s.order1) (
    chained (substituted n f1 g1) (
    chained (added n s.k2) (
    chained (reordered n s.order2) (
    chained (substituted n f2 g2) (masked n (moved s.order3 s.k2)))))))))))
