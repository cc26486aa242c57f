-- Squares in a field of m bits keep sums and products; the powers a^(2^k) and a^(2^k - 1).
use Rattle.std.proofs.Common.{◌≡◌, ℕ, zero, suc, ◌+◌, ◌^◌, ◌<◌, sym, refl, ap, ◌∙◌, arith}
use lib.Bits.{bit_xor, xor_assoc, xor_lt}
use Rattle.field.specs.Fields.{twice, mul, square, squared, ones, trace}
use Rattle.field.proofs.Sums.{crosswise, cancels, Adds}
use Rattle.field.proofs.Products.{mul_by_lt, mul_by_adds, mul_by_adds_r, mul_comm, mul_assoc, mul_one, one_mul, one_lt}
use Rattle.field.proofs.Along.{along_none}
use Rattle.std.proofs.lemmas.Nat.{pow_pos}

module _ (m low : ℕ) (small : low < 2 ^ m) (wide : 0 < m) where
  lt : (a b : ℕ) → a < 2 ^ m → mul m low a b < 2 ^ m
  lt a b h = mul_by_lt m low small m a b h

  comm : (a b : ℕ) → a < 2 ^ m → b < 2 ^ m → mul m low a b ≡ mul m low b a
  comm a b ha hb = mul_comm m low small wide a ha b hb

  assoc : (a b c : ℕ) → a < 2 ^ m → b < 2 ^ m → c < 2 ^ m → mul m low (mul m low a b) c ≡ mul m low a (mul m low b c)
  assoc a b c ha hb hc = mul_assoc m low small wide a ha b c hb hc

  -- the four factors of two products, multiplied crosswise
  pub mul_crosswise : (a b c d : ℕ) → a < 2 ^ m → b < 2 ^ m → c < 2 ^ m → d < 2 ^ m
      → mul m low (mul m low a b) (mul m low c d) ≡ mul m low (mul m low a c) (mul m low b d)
  mul_crosswise a b c d ha hb hc hd =
      assoc a b (mul m low c d) ha hb (lt c d hc)
      ∙ ap (mul m low a) (sym (assoc b c d hb hc hd) ∙ ap (λ z. mul m low z d) (comm b c hb hc) ∙ assoc c b d hc hb hd)
      ∙ sym (assoc a c (mul m low b d) ha hc (lt b d hb))

  pub square_adds : Adds m (square m low)
  square_adds a b ha hb =
      mul_by_adds m low small m (bit_xor a b) a b ha hb
      ∙ ap (λ z. bit_xor z (mul m low b (bit_xor a b))) (mul_by_adds_r m low small m a a b)
      ∙ ap (bit_xor (bit_xor (mul m low a a) (mul m low a b))) (mul_by_adds_r m low small m b a b ∙ ap (λ z. bit_xor z (mul m low b b)) (comm b a hb ha))
      ∙ xor_assoc (mul m low a a) (mul m low a b) (bit_xor (mul m low a b) (mul m low b b))
      ∙ ap (bit_xor (mul m low a a)) (cancels (mul m low a b) (mul m low b b))

  pub square_mul : (a b : ℕ) → a < 2 ^ m → b < 2 ^ m → square m low (mul m low a b) ≡ mul m low (square m low a) (square m low b)
  square_mul a b ha hb = mul_crosswise a b a b ha hb ha hb

  pub squared_lt : (k a : ℕ) → a < 2 ^ m → squared m low k a < 2 ^ m
  unfolding squared
  squared_lt zero a h = h
  squared_lt (suc k) a h = squared_lt k (square m low a) (lt a a h)

  pub squared_last : (k a : ℕ) → squared m low (suc k) a ≡ square m low (squared m low k a)
  unfolding squared
  squared_last zero a = refl
  squared_last (suc k) a = squared_last k (square m low a)

  pub squared_adds : (k : ℕ) → Adds m (squared m low k)
  unfolding squared
  squared_adds zero a b ha hb = refl
  squared_adds (suc k) a b ha hb = ap (squared m low k) (square_adds a b ha hb) ∙ squared_adds k (square m low a) (square m low b) (lt a a ha) (lt b b hb)

  pub squared_mul : (k a b : ℕ) → a < 2 ^ m → b < 2 ^ m → squared m low k (mul m low a b) ≡ mul m low (squared m low k a) (squared m low k b)
  unfolding squared
  squared_mul zero a b ha hb = refl
  squared_mul (suc k) a b ha hb = ap (squared m low k) (square_mul a b ha hb) ∙ squared_mul k (square m low a) (square m low b) (lt a a ha) (lt b b hb)

  pub squared_one : (k : ℕ) → squared m low k 1 ≡ 1
  unfolding squared
  squared_one zero = refl
  squared_one (suc k) = ap (squared m low k) (mul_one m low small wide 1) ∙ squared_one k

  pub ones_lt : (k a : ℕ) → ones m low k a < 2 ^ m
  unfolding ones
  ones_lt zero a = one_lt m low small wide
  ones_lt (suc k) a = lt (square m low (ones m low k a)) a (lt (ones m low k a) (ones m low k a) (ones_lt k a))

  -- one factor more makes it a^(2^k)
  pub ones_mul : (k a : ℕ) → a < 2 ^ m → mul m low (ones m low k a) a ≡ squared m low k a
  unfolding ones squared
  ones_mul zero a h = one_mul m low small wide a h
  ones_mul (suc k) a h =
      let p = ones m low k a in
      let q = ones_lt k a in
      assoc (square m low p) a a (lt p p q) h h
      ∙ sym (square_mul p a q h)
      ∙ ap (square m low) (ones_mul k a h)
      ∙ sym (squared_last k a)

  -- exponents of j + k ones
  pub ones_join : (j k a : ℕ) → a < 2 ^ m → ones m low (j + k) a ≡ mul m low (squared m low k (ones m low j a)) (ones m low k a)
  unfolding ones squared
  ones_join j zero a h =
      let e : j + 0 ≡ j = omega arith in
      ap (λ z. ones m low z a) e ∙ sym (mul_one m low small wide (ones m low j a))
  ones_join j (suc k) a h =
      let e : j + suc k ≡ suc (j + k) = omega arith in
      let p = squared m low k (ones m low j a) in
      let q = ones m low k a in
      let hp = squared_lt k (ones m low j a) (ones_lt j a) in
      let hq = ones_lt k a in
      ap (λ z. ones m low z a) e
      ∙ ap (λ z. mul m low (square m low z) a) (ones_join j k a h)
      ∙ ap (λ z. mul m low z a) (square_mul p q hp hq)
      ∙ assoc (square m low p) (square m low q) a (lt p p hp) (lt q q hq) h
      ∙ ap (λ z. mul m low z (mul m low (square m low q) a)) (sym (squared_last k (ones m low j a)))

  pub trace_lt : (k a : ℕ) → a < 2 ^ m → trace m low k a < 2 ^ m
  unfolding trace
  trace_lt zero a h = pow_pos m
  trace_lt (suc k) a h = xor_lt m a (trace m low k (square m low a)) h (trace_lt k (square m low a) (lt a a h))

  pub trace_adds : (k : ℕ) → Adds m (trace m low k)
  unfolding trace
  trace_adds zero a b ha hb = refl
  trace_adds (suc k) a b ha hb =
      ap (λ z. bit_xor (bit_xor a b) (trace m low k z)) (square_adds a b ha hb)
      ∙ ap (bit_xor (bit_xor a b)) (trace_adds k (square m low a) (square m low b) (lt a a ha) (lt b b hb))
      ∙ crosswise a b (trace m low k (square m low a)) (trace m low k (square m low b))

  -- a number that is its own square goes out of the trace
  pub trace_scales : (e : ℕ) → e < 2 ^ m → square m low e ≡ e → (k a : ℕ) → a < 2 ^ m → trace m low k (mul m low e a) ≡ mul m low e (trace m low k a)
  unfolding trace
  trace_scales e he own zero a h = sym (along_none (twice m low) m e)
  trace_scales e he own (suc k) a h =
      ap (λ z. bit_xor (mul m low e a) (trace m low k z)) (square_mul e a he h ∙ ap (λ z. mul m low z (square m low a)) own)
      ∙ ap (bit_xor (mul m low e a)) (trace_scales e he own k (square m low a) (lt a a h))
      ∙ sym (mul_by_adds_r m low small m e a (trace m low k (square m low a)))
