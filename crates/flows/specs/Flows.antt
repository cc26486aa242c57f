-- The two flows of the K-Cipher, from its listings, and their decryptions, step by step back.
use Rattle.std.specs.Prelude.{ℕ, List, bit_xor}
use Rattle.bits.specs.Orders.{moved, gathered}
use Rattle.bits.specs.Words.{wrapped_sum, wrapped_difference}
use Rattle.boxes.specs.Boxes.{layer, flex_box}
use Rattle.boxes.specs.Layouts.{layout, widths}

-- What both flows work with: the width, the constant C0, the orders 0 to 3, and the round keys.
pub record Setting : Type 0 where
  pub width : ℕ
  pub c0 : ℕ
  pub order0 : List ℕ
  pub order1 : List ℕ
  pub order2 : List ℕ
  pub order3 : List ℕ
  pub k0 : ℕ
  pub k1 : ℕ
  pub k2 : ℕ

-- What a box does to a value, by its place and its width.
abbrev pub Kind : Type 0
Kind = ℕ → ℕ → ℕ → ℕ

-- A number of n bits sent through the boxes of its width.
abbrev pub through_boxes : ℕ → Kind → ℕ → ℕ
through_boxes n f x = layer f 0 (widths (layout n)) x

-- Flex.
abbrev pub flex_encrypt : Setting → ℕ → ℕ
flex_encrypt s x =
    let n = s.width in
    let u = wrapped_sum n x s.c0 in
    let v = wrapped_sum n u s.k0 in
    let w = moved s.order0 v in
    let a = through_boxes n flex_box w in
    let b = moved s.order1 a in
    let c = wrapped_sum n b s.k1 in
    let d = moved s.order2 c in
    let e = through_boxes n flex_box d in
    let f = moved s.order3 e in
    bit_xor f s.k2

abbrev pub flex_decrypt : Setting → ℕ → ℕ
flex_decrypt s y =
    let n = s.width in
    let f = bit_xor y s.k2 in
    let e = gathered s.order3 f in
    let d = through_boxes n flex_box e in
    let c = gathered s.order2 d in
    let b = wrapped_difference n c s.k1 in
    let a = gathered s.order1 b in
    let w = through_boxes n flex_box a in
    let v = gathered s.order0 w in
    let u = wrapped_difference n v s.k0 in
    wrapped_difference n u s.c0

-- CPA has three rounds, each with boxes of its own; f0 to f2 say what they do, and g0 to g2 are their ways back. The veil is
-- K2 sent through order 3.
abbrev pub cpa_encrypt : Setting → (f0 f1 f2 : Kind) → ℕ → ℕ
cpa_encrypt s f0 f1 f2 x =
    let n = s.width in
    let u = wrapped_sum n x s.c0 in
    let v = wrapped_sum n u s.k0 in
    let w = moved s.order0 v in
    let a = through_boxes n f0 w in
    let b = wrapped_sum n a s.k1 in
    let c = moved s.order1 b in
    let d = through_boxes n f1 c in
    let e = wrapped_sum n d s.k2 in
    let f = moved s.order2 e in
    let g = through_boxes n f2 f in
    let veil = moved s.order3 s.k2 in
    bit_xor g veil

abbrev pub cpa_decrypt : Setting → (g0 g1 g2 : Kind) → ℕ → ℕ
cpa_decrypt s g0 g1 g2 y =
    let n = s.width in
    let veil = moved s.order3 s.k2 in
    let g = bit_xor y veil in
    let f = through_boxes n g2 g in
    let e = gathered s.order2 f in
    let d = wrapped_difference n e s.k2 in
    let c = through_boxes n g1 d in
    let b = gathered s.order1 c in
    let a = wrapped_difference n b s.k1 in
    let w = through_boxes n g0 a in
    let v = gathered s.order0 w in
    let u = wrapped_difference n v s.k0 in
    wrapped_difference n u s.c0
