-- The turns of squaring many times, and of the addition chain.
use Rattle.std.proofs.Common.{◌≡◌, ℕ, suc, ◌+◌, ◌-◌, ◌/◌, ◌%◌, ◌^◌, ◌<◌, ◌≤◌, sym, refl, ap, ◌∙◌, div-one, arith}
use Rattle.std.proofs.lemmas.Nat.{shr-shr}
use Rattle.field.specs.Fields.{mul, square, squared, ones, inverse}
use Rattle.field.specs.Code.{Root}
use Rattle.field.proofs.Products.{mul_one, one_mul}
use Rattle.field.proofs.Inverses.{Tested, inverse_is, inverse_again}
use Rattle.field.proofs.Powers.{squared_last, ones_join}

module _ (m low : ℕ) (small : low < 2 ^ m) (wide : 0 < m) where
  pub squared_none : (a : ℕ) → a ≡ squared m low 0 a
  unfolding squared
  squared_none a = refl

  pub squared_next : (k a p r : ℕ) → p ≡ squared m low k a → r ≡ square m low p → r ≡ squared m low (k + 1) a
  squared_next k a p r hp hr =
      let e : suc k ≡ k + 1 = omega arith in
      hr ∙ ap (square m low) hp ∙ sym (squared_last m low small wide k a) ∙ ap (λ z. squared m low z a) e

  pub ones_one : (k a : ℕ) → k ≡ 1 → a < 2 ^ m → a ≡ ones m low k a
  unfolding ones
  ones_one k a e h = sym (ap (λ z. ones m low z a) e ∙ ap (λ z. mul m low z a) (mul_one m low small wide 1) ∙ one_mul m low small wide a h)

  pub ones_even : (k a half high even : ℕ) → a < 2 ^ m → half ≡ ones m low (k / 2) a → high ≡ squared m low (k / 2) half → even ≡ mul m low high half
      → even ≡ ones m low (k / 2 + k / 2) a
  ones_even k a half high even h e f g =
      g ∙ ap (λ z. mul m low z half) f ∙ ap (λ z. mul m low (squared m low (k / 2) z) z) e ∙ sym (ones_join m low small wide (k / 2) (k / 2) a h)

  pub ones_odd : (k a even square_of r : ℕ) → (k % 2 ≡ 0 → ⊥) → even ≡ ones m low (k / 2 + k / 2) a → square_of ≡ square m low even → r ≡ mul m low square_of a
      → r ≡ ones m low k a
  unfolding ones
  ones_odd k a even square_of r odd e f g =
      let one_more : suc (k / 2 + k / 2) ≡ k = omega arith in
      g ∙ ap (λ z. mul m low z a) f ∙ ap (λ z. mul m low (square m low z) a) e ∙ ap (λ z. ones m low z a) one_more

-- What the chain has reached at place i: a for no exponent yet, and else the power of the exponent's upper part.
pub record Reached (m low k a i p : ℕ) : Type 0 where
  pub none : k / 2 ^ i ≡ 0 → p ≡ a
  pub some : 0 < k / 2 ^ i → p ≡ ones m low (k / 2 ^ i) a

pub halved : (k i : ℕ) → 0 < i → k / 2 ^ (i - 1) / 2 ≡ k / 2 ^ i
halved k i h =
    let e : i - 1 + 1 ≡ i = omega (arith, h) in
    shr-shr k (i - 1) 1 ∙ ap (λ z. k / 2 ^ z) e

module _ (m low : ℕ) (small : low < 2 ^ m) (wide : 0 < m) where
  pub reached_first : (k a : ℕ) → k < 32 → Reached m low k a 5 a
  reached_first k a h = record { none = λ _. refl; some = λ p. absurd (omega (arith, h, p)) }

  pub reached_half : (k a i p : ℕ) → 0 < i → 1 < k / 2 ^ (i - 1) → Reached m low k a i p → p ≡ ones m low (k / 2 ^ (i - 1) / 2) a
  reached_half k a i p h more r =
      let e = halved k i h in
      r.some (omega (arith, e, more)) ∙ ap (λ z. ones m low z a) (sym e)

  pub reached_next : (k a i p : ℕ) → 1 < k / 2 ^ (i - 1) → p ≡ ones m low (k / 2 ^ (i - 1)) a → Reached m low k a (i - 1) p
  reached_next k a i p more e = record { none = λ z. absurd (omega (arith, z, more)); some = λ _. e }

  pub reached_same : (k a i p : ℕ) → a < 2 ^ m → 0 < i → k / 2 ^ (i - 1) ≤ 1 → Reached m low k a i p → Reached m low k a (i - 1) p
  reached_same k a i p ha h few r =
      let e = halved k i h in
      let same : p ≡ a = r.none (omega (arith, e, few)) in
      record { none = λ _. same; some = λ z. same ∙ ones_one m low small wide (k / 2 ^ (i - 1)) a (omega (arith, few, z)) ha }

  pub reached_last : (k a i p : ℕ) → 0 < k → i ≤ 0 → Reached m low k a i p → p ≡ ones m low k a
  reached_last k a i p h last r =
      let zeroth : i ≡ 0 = omega (arith, last) in
      let whole : k / 2 ^ i ≡ k = ap (λ z. k / 2 ^ z) zeroth ∙ div-one k in
      r.some (omega (arith, whole, h)) ∙ ap (λ z. ones m low z a) whole

-- a^(2^(m - 1) - 1) squared is the inverse
pub ones_root : (m low : ℕ) → Tested m low → (k a p : ℕ) → a < 2 ^ m → p ≡ ones m low k a → k + 1 ≡ m → Root m low a p
unfolding inverse
ones_root m low ok k a p h e f =
    let last : k ≡ m - 1 = omega arith in
    let same : square m low p ≡ inverse m low a = ap (square m low) (e ∙ ap (λ z. ones m low z a) last) in
    record { is = same; inverts = rw same (inverse_is m low ok a h); again = ap (inverse m low) same ∙ inverse_again m low ok a h }
