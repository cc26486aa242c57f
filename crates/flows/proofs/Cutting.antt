-- Numbers cut from strings of bits: a cut of a cut is a cut, so a box finds its random parts in those of its round.
use Rattle.std.proofs.Common.{◌≡◌, ℕ, zero, suc, ◌+◌, ◌*◌, ◌/◌, ◌%◌, ◌^◌, ◌<◌, ◌≤◌, List, [], ◌∷◌, sym, refl, ap, ◌∙◌, arith}
use Rattle.std.proofs.lemmas.Nat.{pow_pos, mod_below}
use Rattle.bits.specs.Bits.{bit}
use Rattle.bits.proofs.Bits.{bit_first, bit_half, bit_mod, bit_shr, same_bits}
use Rattle.boxes.specs.Boxes.{Boxed, layer, bits_of, cpa, cpa_back, cpa_box, cpa_box_back}
use Rattle.boxes.specs.Kinds.{cpa_undone}
use Rattle.boxes.specs.Layouts.{layout, widths}
use Rattle.boxes.proofs.Layouts.{layout_cut}
use Rattle.boxes.proofs.Rows.{bits_widths}
use Rattle.flows.specs.Flows.{Kind, through_boxes}
use Rattle.flows.specs.Keys.{first_row, second_row, first_part, second_part, round_box, round_box_back}
use Rattle.flows.specs.Strings.{number_at}

-- Each place of the string has a bit.
abbrev pub OfBits : (ℕ → ℕ) → Type 0
OfBits s = (i : ℕ) → s i < 2

pub number_below : (s : ℕ → ℕ) → OfBits s → (a n : ℕ) → number_at s a n < 2 ^ n
unfolding number_at
number_below s b a zero = omega arith
number_below s b a (suc n) = let h = number_below s b (a + 1) n in let l = b a in omega arith

pub number_bit : (s : ℕ → ℕ) → OfBits s → (a n i : ℕ) → i < n → bit (number_at s a n) i ≡ s (a + i)
unfolding number_at
number_bit s b a zero i h = absurd (omega arith)
number_bit s b a (suc n) zero h =
    bit_first (s a + 2 * number_at s (a + 1) n)
    ∙ (let l = b a in let e : (s a + 2 * number_at s (a + 1) n) % 2 ≡ s a = omega arith in e)
    ∙ ap s (let e : a ≡ a + 0 = omega arith in e)
number_bit s b a (suc n) (suc i) h =
    sym (bit_half (s a + 2 * number_at s (a + 1) n) i)
    ∙ ap (λ z. bit z i) (let l = b a in let e : (s a + 2 * number_at s (a + 1) n) / 2 ≡ number_at s (a + 1) n = omega arith in e)
    ∙ number_bit s b (a + 1) n i (omega arith)
    ∙ ap s (let e : a + 1 + i ≡ a + suc i = omega arith in e)

pub number_cut : (s : ℕ → ℕ) → OfBits s → (a n p m : ℕ) → p + m ≤ n → number_at s a n / 2 ^ p % 2 ^ m ≡ number_at s (a + p) m
number_cut s b a n p m fits =
    same_bits m _ _ (mod_below (number_at s a n / 2 ^ p) (2 ^ m) (pow_pos m)) (number_below s b (a + p) m) (λ i h.
    bit_mod m (number_at s a n / 2 ^ p) i h
    ∙ bit_shr (number_at s a n) p i
    ∙ number_bit s b a n (p + i) (omega arith)
    ∙ ap s (let e : a + (p + i) ≡ a + p + i = omega arith in e)
    ∙ sym (number_bit s b (a + p) m i h))

-- Strings that agree give the same numbers.
pub number_same : (s t : ℕ → ℕ) (a n : ℕ) → ((i : ℕ) → i < n → s (a + i) ≡ t (a + i)) → number_at s a n ≡ number_at t a n
unfolding number_at
number_same s t a zero same = refl
number_same s t a (suc n) same =
    let e : a + 0 ≡ a = omega arith in
    let here : s a ≡ t a = rw e at (same 0 (omega arith)) in
    let rest = number_same s t (a + 1) n (λ i h. let f : a + suc i ≡ a + 1 + i = omega arith in rw f at (same (suc i) (omega arith))) in
    ap (λ z. z + 2 * number_at s (a + 1) n) here ∙ ap (λ z. t a + 2 * z) rest

-- Kinds of box that agree wherever a box can stand.
pub layer_same : (f g : Kind) (n p : ℕ) (ms : List ℕ) → ((q m v : ℕ) → q + m ≤ n → f q m v ≡ g q m v) → p + bits_of ms ≤ n → (x : ℕ) → layer f p ms x ≡ layer g p ms x
unfolding layer
layer_same f g n p [] same fits x = refl
layer_same f g n p (m ∷ ms) same fits x =
    ap (λ z. z * 2 ^ m + f p m (x % 2 ^ m)) (layer_same f g n (p + m) ms same (omega arith) (x / 2 ^ m))
    ∙ ap (λ z. layer g (p + m) ms (x / 2 ^ m) * 2 ^ m + z) (same p m (x % 2 ^ m) (omega arith))

pub boxed_same : (f g : Kind) (n : ℕ) → 24 ≤ n → n ≤ 64 → ((q m v : ℕ) → q + m ≤ n → f q m v ≡ g q m v) → (x : ℕ) → through_boxes n f x ≡ through_boxes n g x
boxed_same f g n a b same x = layer_same f g n 0 (widths (layout n)) same (let e = bits_widths n (layout n) (layout_cut n a b) in omega arith) x

module _ (n : ℕ) (random : ℕ → ℕ) (b : OfBits random) (least : 24 ≤ n) (most : n ≤ 64) (j : ℕ) where
  first_cut : (p m : ℕ) → p + m ≤ n → first_row n random j / 2 ^ p % 2 ^ m ≡ first_part n random j p m
  first_cut p m h = number_cut random b (2 * j * n) n p m h

  second_cut : (p m : ℕ) → p + m ≤ n → second_row n random j / 2 ^ p % 2 ^ m ≡ second_part n random j p m
  second_cut p m h = number_cut random b ((2 * j + 1) * n) n p m h

  pub round_same : (x : ℕ) → through_boxes n (cpa_box (first_row n random j) (second_row n random j)) x ≡ through_boxes n (round_box n random j) x
  round_same =
      boxed_same _ _ n least most (λ p m v h.
      ap (λ z. cpa m z (second_row n random j / 2 ^ p % 2 ^ m) v) (first_cut p m h) ∙ ap (λ z. cpa m (first_part n random j p m) z v) (second_cut p m h))

  pub round_back_same : (y : ℕ) → through_boxes n (cpa_box_back (first_row n random j) (second_row n random j)) y ≡ through_boxes n (round_box_back n random j) y
  round_back_same =
      boxed_same _ _ n least most (λ p m v h.
      ap (λ z. cpa_back m z (second_row n random j / 2 ^ p % 2 ^ m) v) (first_cut p m h) ∙ ap (λ z. cpa_back m (first_part n random j p m) z v) (second_cut p m h))

  pub round_boxed : Boxed (round_box n random j) (round_box_back n random j)
  round_boxed p m some = cpa_undone m (first_part n random j p m) (second_part n random j p m) some (number_below random b (2 * j * n + p) m)
