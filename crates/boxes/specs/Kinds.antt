-- The two ways of each kind of box undo each other, whatever its width and random parts.
use Rattle.std.proofs.Common.{◌≡◌, ℕ, ◌+◌, ◌-◌, ◌/◌, ◌%◌, ◌^◌, ◌<◌, refl, ap, ◌∙◌, mod-eq_of_lt}
use lib.Bits.{bit_xor, xor_lt, xor_assoc, xor_self, xor_zero_r}
use Rattle.std.proofs.Math.Nat.{le_of_lt}
use Rattle.std.proofs.lemmas.Nat.{pow_pos, mod_below}
use Rattle.bits.specs.Words.{wrapped_sum, wrapped_difference, turned_left, turned_right}
use Rattle.bits.proofs.Words.{cancels, turns_back, turned_left_below, turned_right_below}
use Rattle.field.specs.Widths.{low_part}
use Rattle.field.proofs.Inverses.{inverse_lt, inverse_again}
use Rattle.field.proofs.Tested.{field_good}
use Rattle.boxes.specs.Boxes.{flex, cpa, cpa_back, Undone, Boxed, flex_box, cpa_box, cpa_box_back, cut}

flex_undone : (m : ℕ) → 0 < low_part m → Undone m (flex m) (flex m)
unfolding flex
flex_undone m some =
    let t = field_good m (low_part m) refl some in
    record {
      within = λ x h. inverse_lt m (low_part m) t x;
      lands = λ y h. inverse_lt m (low_part m) t y;
      undoes = λ x h. inverse_again m (low_part m) t x h;
      redoes = λ y h. inverse_again m (low_part m) t y h;
    }

-- one map after another
pub after : (m : ℕ) (f g f' g' : ℕ → ℕ) → Undone m f g → Undone m f' g' → Undone m (λ x. f' (f x)) (λ y. g (g' y))
after m f g f' g' a b =
    record {
      within = λ x h. b.within (f x) (a.within x h);
      lands = λ y h. a.lands (g' y) (b.lands y h);
      undoes = λ x h. ap g (b.undoes (f x) (a.within x h)) ∙ a.undoes x h;
      redoes = λ y h. ap f' (a.redoes (g' y) (b.lands y h)) ∙ b.redoes y h;
    }

pub xor_undone : (m r : ℕ) → r < 2 ^ m → Undone m (λ x. bit_xor x r) (λ y. bit_xor y r)
xor_undone m r small =
    record {
      within = λ x h. xor_lt m x r h small;
      lands = λ y h. xor_lt m y r h small;
      undoes = λ x h. twice x;
      redoes = λ y h. twice y;
    }
  where
    twice : (x : ℕ) → bit_xor (bit_xor x r) r ≡ x
    twice x = xor_assoc x r r ∙ ap (bit_xor x) (xor_self r) ∙ xor_zero_r x

pub sum_undone : (m r : ℕ) → Undone m (λ x. wrapped_sum m x r) (λ y. wrapped_difference m y r)
sum_undone m r =
    record {
      within = λ x h. mod_below (x + r) (2 ^ m) (pow_pos m);
      lands = λ y h. mod_below (y + (2 ^ m - r % 2 ^ m)) (2 ^ m) (pow_pos m);
      undoes = λ x h. (cancels m x r).added ∙ mod-eq_of_lt h;
      redoes = λ y h. (cancels m y r).taken ∙ mod-eq_of_lt h;
    }

turned_undone : (m k : ℕ) → 0 < m → Undone m (turned_left m k) (turned_right m k)
turned_undone m k some =
    record {
      within = λ x h. turned_left_below m k x some;
      lands = λ y h. turned_right_below m k y some;
      undoes = λ x h. (turns_back m k x some).left ∙ mod-eq_of_lt h;
      redoes = λ y h. (turns_back m k y some).right ∙ mod-eq_of_lt h;
    }

pub cpa_undone : (m r0 r1 : ℕ) → 0 < low_part m → r0 < 2 ^ m → Undone m (cpa m r0 r1) (cpa_back m r0 r1)
unfolding cpa cpa_back
cpa_undone m r0 r1 some small =
    let t = field_good m (low_part m) refl some in
    after m (λ x. wrapped_sum m (flex m (bit_xor x r0)) r1) (λ y. bit_xor (flex m (wrapped_difference m y r1)) r0) (turned_left m 2) (turned_right m 2)
    (after m (λ x. flex m (bit_xor x r0)) (λ y. bit_xor (flex m y) r0) (λ x. wrapped_sum m x r1) (λ y. wrapped_difference m y r1)
    (after m (λ x. bit_xor x r0) (λ y. bit_xor y r0) (flex m) (flex m) (xor_undone m r0 small) (flex_undone m some))
    (sum_undone m r1))
    (turned_undone m 2 (le_of_lt t.wide))

pub flex_boxed : Boxed flex_box flex_box
flex_boxed p m some = flex_undone m some

pub cpa_boxed : (r0 r1 : ℕ) → Boxed (cpa_box r0 r1) (cpa_box_back r0 r1)
cpa_boxed r0 r1 p m some = cpa_undone m (cut r0 p m) (cut r1 p m) some (mod_below (r0 / 2 ^ p) (2 ^ m) (pow_pos m))

pub turned_boxed : (f g : ℕ → ℕ → ℕ → ℕ) → Boxed f g → Boxed g f
turned_boxed f g boxed p m some =
    let u = boxed p m some in
    record { within = u.lands; lands = u.within; undoes = u.redoes; redoes = u.undoes }
