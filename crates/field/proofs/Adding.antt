-- One turn of the loop that adds up a product.
use Rattle.std.proofs.Common.{◌≡◌, ℕ, suc, ◌+◌, ◌-◌, ◌*◌, ◌/◌, ◌%◌, ◌^◌, ◌<◌, ◌≤◌, sym, ap, ◌∙◌, mul_left_comm, arith}
use lib.Bits.{bit_xor, bit_and, xor_assoc, xor_zero_r}
use Rattle.std.proofs.lemmas.Nat.{and_mask, shl_whole, shr-shr}
use Rattle.field.specs.Polynomials.{along, doubled, product}
use Rattle.std.proofs.Math.Nat.{pow-succ'}

-- the term that the code adds is the product's
pub term_is : (w a b i : ℕ) → w ≤ 32 → a < 2 ^ w → i < w → bit_and (b / 2 ^ i) 1 * ((a * 2 ^ i) % 2 ^ 64) ≡ b / 2 ^ i % 2 * (a * 2 ^ i)
term_is w a b i few ha hi =
    ap (λ z. z * ((a * 2 ^ i) % 2 ^ 64)) (and_mask (b / 2 ^ i) 1) ∙ ap (λ z. b / 2 ^ i % 2 * z) (shl_whole a w i 64 ha (omega arith))

pub turn : (w a b i sum term whole : ℕ) → i < w → term ≡ b / 2 ^ i % 2 * (a * 2 ^ i)
    → bit_xor sum (product (w - i) (a * 2 ^ i) (b / 2 ^ i)) ≡ whole
    → bit_xor (bit_xor sum term) (product (w - (i + 1)) (a * 2 ^ (i + 1)) (b / 2 ^ (i + 1))) ≡ whole
unfolding along
turn w a b i sum term whole hi is inv =
    let next : suc i ≡ i + 1 = omega arith in
    let one_more : w - i ≡ suc (w - (i + 1)) = omega arith in
    let up : doubled (a * 2 ^ i) ≡ a * 2 ^ (i + 1) = sym (mul_left_comm a 2 (2 ^ i)) ∙ ap (λ z. a * z) (sym (pow-succ' 2 i)) ∙ ap (λ z. a * 2 ^ z) next in
    xor_assoc sum term (product (w - (i + 1)) (a * 2 ^ (i + 1)) (b / 2 ^ (i + 1)))
    ∙ ap (λ z. bit_xor sum (bit_xor z (product (w - (i + 1)) (a * 2 ^ (i + 1)) (b / 2 ^ (i + 1))))) is
    ∙ ap (λ z. bit_xor sum (bit_xor (b / 2 ^ i % 2 * (a * 2 ^ i)) (product (w - (i + 1)) z (b / 2 ^ (i + 1))))) (sym up)
    ∙ ap (λ z. bit_xor sum (bit_xor (b / 2 ^ i % 2 * (a * 2 ^ i)) (product (w - (i + 1)) (doubled (a * 2 ^ i)) z))) (sym (shr-shr b i 1))
    ∙ ap (λ z. bit_xor sum (product z (a * 2 ^ i) (b / 2 ^ i))) (sym one_more)
    ∙ inv

pub ended : (w a b i sum whole : ℕ) → w ≤ i → bit_xor sum (product (w - i) (a * 2 ^ i) (b / 2 ^ i)) ≡ whole → sum ≡ whole
unfolding along
ended w a b i sum whole far inv =
    let none : w - i ≡ 0 = omega arith in
    sym (xor_zero_r sum) ∙ ap (λ z. bit_xor sum (product z (a * 2 ^ i) (b / 2 ^ i))) (sym none) ∙ inv
