-- A CPA box as the code works it out, on numbers of which the lowest bits count.
use Rattle.std.proofs.Common.{◌≡◌, ℕ, ◌+◌, ◌-◌, ◌/◌, ◌%◌, ◌^◌, ◌<◌, ◌≤◌, sym, ap, ◌∙◌}
use Rattle.std.proofs.Math.Nat.{div-eq_of_lt, lt_of_lt_of_le}
use Rattle.std.proofs.Math.Pow.{pow_mono}
use native.Mathlib.Nat.{mod-mod, add-mod-mod}
use lib.Bits.{bit_xor, xor_mod}
use Rattle.bits.specs.Words.{wrapped_sum, wrapped_difference, turned, turned_left, turned_right}
use Rattle.boxes.specs.Boxes.{flex, cpa, cpa_back}

pub sent_is : (m r0 r1 x i a t : ℕ) → i ≡ flex m (bit_xor x r0 % 2 ^ m) → a ≡ wrapped_sum m i r1 → t ≡ turned_left m 2 a → t ≡ cpa m (r0 % 2 ^ m) (r1 % 2 ^ m) (x % 2 ^ m)
unfolding cpa
sent_is m r0 r1 x i a t hi ha ht =
    ht
    ∙ ap (turned_left m 2) (ha ∙ ap (λ z. wrapped_sum m z r1) (hi ∙ ap (flex m) (xor_mod x r0 m)) ∙ sym (add-mod-mod (flex m (bit_xor (x % 2 ^ m) (r0 % 2 ^ m))) r1 (2 ^ m)))

turned_right_mod : (m k y : ℕ) → turned_right m k y ≡ turned_right m k (y % 2 ^ m)
unfolding turned_right turned_left
turned_right_mod m k y = ap (turned m ((m - k % m) % m)) (sym (mod-mod y (2 ^ m)))

pub sent_back_is : (m r0 r1 y t s i c : ℕ) → t ≡ turned_right m 2 y → s ≡ wrapped_difference m t r1 → i ≡ flex m (s % 2 ^ m) → c ≡ r0 % 2 ^ m
    → bit_xor i c ≡ cpa_back m (r0 % 2 ^ m) (r1 % 2 ^ m) (y % 2 ^ m)
unfolding cpa_back
sent_back_is m r0 r1 y t s i c ht hs hi hc =
    ap (bit_xor i) hc
    ∙ ap (λ z. bit_xor z (r0 % 2 ^ m)) (hi ∙ ap (λ z. flex m (z % 2 ^ m)) hs ∙ ap (flex m) (mod-mod (t + (2 ^ m - r1 % 2 ^ m)) (2 ^ m))
    ∙ ap (λ z. flex m (wrapped_difference m z r1)) (ht ∙ turned_right_mod m 2 y)
    ∙ ap (λ z. flex m ((turned_right m 2 (y % 2 ^ m) + (2 ^ m - z)) % 2 ^ m)) (sym (mod-mod r1 (2 ^ m))))

-- a number of 64 bits has none from place 64 on
pub none_left : (r p : ℕ) → r < 2 ^ 64 → 64 ≤ p → 0 ≡ r / 2 ^ p
none_left r p h k = sym (div-eq_of_lt (lt_of_lt_of_le h (pow_mono k)))
