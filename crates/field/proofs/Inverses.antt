-- A width and low part that pass the test make a field: each number but 0 has the one inverse a^(2^m - 2), which is its own
-- inverse. No polynomial is divided by another for it: a^(2^m) is a since x^(2^m) is x, so e = a^(2^m - 1) is its own square,
-- and by the trace only 0 and 1 are.
use Rattle.std.proofs.Common.{◌≡◌, ℕ, zero, suc, ◌-◌, ◌^◌, ◌<◌, ◌≤◌, true, ◌&&◌, eqb, ltb, leb, ◌⊎◌, sym, refl, ap, ◌∙◌, subst, inl, inr, arith, pow_mono}
use lib.Bits.{bit_xor, xor_lt}
use Rattle.std.proofs.lemmas.Nat.{pow_below}
use Rattle.std.proofs.lemmas.Bool.{and_parts, or_cases, ltb-true, leb-true, eqb-true, false≢true, cases_eq}
use Rattle.field.specs.Polynomials.{product, Leaves}
use Rattle.field.specs.Fields.{twice, mul, square, squared, ones, trace, traces_small, some_trace, good, inverse, IsInverse}
use Rattle.field.proofs.Sums.{adds_none, each}
use Rattle.field.proofs.Along.{along_none, along_zero}
use Rattle.field.proofs.Products.{Below, twice_linear, twice_below, mul_by_lt, mul_by_twice, mul_comm, mul_assoc, mul_one, one_mul, one_lt, by_one}
use Rattle.field.proofs.Powers.{squared_lt, squared_adds, squared_mul, squared_one, ones_lt, ones_mul, trace_adds, trace_scales}
use Rattle.field.proofs.Remainders.{product_leaves, product_left}

-- what the test says
pub record Tested (m low : ℕ) : Type 0 where
  pub wide : 2 ≤ m
  pub small : low < 2 ^ m
  pub comes_home : squared m low m 2 ≡ 2
  pub traces : traces_small m low m ≡ true
  pub one_trace : some_trace m low m ≡ true

pub tested : (m low : ℕ) → good m low ≡ true → Tested m low
unfolding good
tested m low g =
    let a = and_parts (leb 2 m) (ltb low (2 ^ m) && (eqb (squared m low m 2) 2 && (traces_small m low m && some_trace m low m))) g in
    let b = and_parts (ltb low (2 ^ m)) (eqb (squared m low m 2) 2 && (traces_small m low m && some_trace m low m)) a.1 in
    let c = and_parts (eqb (squared m low m 2) 2) (traces_small m low m && some_trace m low m) b.1 in
    let d = and_parts (traces_small m low m) (some_trace m low m) c.1 in
    record {
      wide = leb-true 2 m a.0;
      small = ltb-true low (2 ^ m) b.0;
      comes_home = eqb-true (squared m low m 2) 2 c.0;
      traces = d.0;
      one_trace = d.1;
    }

-- a power of x that has trace 1
record OneTrace (m low k : ℕ) : Type 0 where
  at : ℕ
  within : at < k
  is : trace m low m (2 ^ at) ≡ 1

one_traced : (m low k : ℕ) → some_trace m low k ≡ true → OneTrace m low k
unfolding some_trace
one_traced m low zero g = absurd (false≢true g)
one_traced m low (suc k) g = go (or_cases (eqb (trace m low m (2 ^ k)) 1) (some_trace m low k) g) (one_traced m low k)
  where
    go : (eqb (trace m low m (2 ^ k)) 1 ≡ true) ⊎ (some_trace m low k ≡ true) → (some_trace m low k ≡ true → OneTrace m low k) → OneTrace m low (suc k)
    go (inl e) lower = record { at = k; within = omega arith; is = eqb-true (trace m low m (2 ^ k)) 1 e }
    go (inr e) lower = let o = lower e in record { at = o.at; within = omega (arith, o.within); is = o.is }

all_small : (m low k : ℕ) → traces_small m low k ≡ true → (i : ℕ) → i < k → trace m low m (2 ^ i) < 2
unfolding traces_small
all_small m low zero g i h = absurd (omega arith)
all_small m low (suc k) g i h = go (and_parts (ltb (trace m low m (2 ^ k)) 2) (traces_small m low k) g) (cases_eq i k) (all_small m low k)
  where
    go : (ltb (trace m low m (2 ^ k)) 2 ≡ true) × (traces_small m low k ≡ true) → (i ≡ k) ⊎ (i ≡ k → ⊥)
        → (traces_small m low k ≡ true → (i : ℕ) → i < k → trace m low m (2 ^ i) < 2) → trace m low m (2 ^ i) < 2
    go p (inl e) lower = rw e (ltb-true (trace m low m (2 ^ k)) 2 p.0)
    go p (inr ne) lower = lower p.1 i (omega arith)

module _ (m low : ℕ) (ok : Tested m low) where
  small : low < 2 ^ m
  small = ok.small

  wide : 0 < m
  wide = omega (arith, ok.wide)

  lt : (a b : ℕ) → a < 2 ^ m → mul m low a b < 2 ^ m
  lt a b h = mul_by_lt m low small m a b h

  two_lt : 2 < 2 ^ m
  two_lt = let four : 2 ^ 2 ≤ 2 ^ m = pow_mono ok.wide in omega (arith, four)

  -- x·a by the number 2
  two_mul : (a : ℕ) → a < 2 ^ m → mul m low 2 a ≡ twice m low a
  two_mul a h =
      ap (λ z. mul m low z a) (sym (twice_below m low small 1 (omega (arith, two_lt))))
      ∙ mul_by_twice m low small m 1 a (one_lt m low small wide)
      ∙ ap (twice m low) (one_mul m low small wide a h)

  -- a^(2^m) is a
  pub home : (a : ℕ) → a < 2 ^ m → squared m low m a ≡ a
  home =
      by_one m low small wide (squared m low m) (λ a. a) (squared_adds m low small wide m) (λ _ _ _ _. refl)
      (λ a h. ap (squared m low m) (sym (two_mul a h)) ∙ squared_mul m low small wide m 2 a two_lt h
      ∙ ap (λ z. mul m low z (squared m low m a)) ok.comes_home ∙ two_mul (squared m low m a) (squared_lt m low small wide m a h))
      (λ _ _. refl)
      (squared_one m low small wide m)

  -- the trace is 0 or 1
  trace_small : (a : ℕ) → a < 2 ^ m → trace m low m a < 2
  trace_small a h =
      each (λ z. trace m low m z < 2) m none sums (all_small m low m ok.traces) m (omega arith) a h
    where
      none : trace m low m 0 < 2
      none = let e = adds_none m (trace m low m) (trace_adds m low small wide m) in omega (arith, e)

      sums : (a b : ℕ) → a < 2 ^ m → b < 2 ^ m → trace m low m a < 2 → trace m low m b < 2 → trace m low m (bit_xor a b) < 2
      sums a b ha hb ta tb = rw (trace_adds m low small wide m a b ha hb) (xor_lt 1 (trace m low m a) (trace m low m b) ta tb)

  -- what is its own square is 0 or 1
  own_square : (e : ℕ) → e < 2 ^ m → square m low e ≡ e → e < 2
  own_square e h own = go (one_traced m low m ok.one_trace)
    where
      go : OneTrace m low m → e < 2
      go o =
          let s = 2 ^ o.at in
          let hs = pow_below o.at m o.within in
          let same : trace m low m (mul m low e s) ≡ e = trace_scales m low small wide e h own m s hs ∙ ap (mul m low e) o.is ∙ mul_one m low small wide e in
          omega (arith, same, trace_small (mul m low e s) (lt e s h))

  pub inverse_lt : (a : ℕ) → inverse m low a < 2 ^ m
  unfolding inverse
  inverse_lt a = lt (ones m low (m - 1) a) (ones m low (m - 1) a) (ones_lt m low small wide (m - 1) a)

  -- e = a^(2^m - 1)
  whole : (a : ℕ) → mul m low (inverse m low a) a ≡ ones m low m a
  unfolding inverse ones
  whole a = go m refl
    where
      go : (k : ℕ) → k ≡ m → mul m low (square m low (ones m low (m - 1) a)) a ≡ ones m low k a
      go zero e = absurd (omega (arith, wide))
      go (suc k) e = let p : m - 1 ≡ k = omega arith in ap (λ z. mul m low (square m low (ones m low z a)) a) p

  whole_keeps : (a : ℕ) → a < 2 ^ m → mul m low (ones m low m a) a ≡ a
  whole_keeps a h = ones_mul m low small wide m a h ∙ home a h

  whole_own : (a : ℕ) → a < 2 ^ m → square m low (ones m low m a) ≡ ones m low m a
  whole_own a h =
      let e = ones m low m a in
      let he = ones_lt m low small wide m a in
      let i = inverse m low a in
      let hi = inverse_lt a in
      ap (mul m low e) (sym (whole a) ∙ mul_comm m low small wide i hi a h)
      ∙ sym (mul_assoc m low small wide e he a i h hi)
      ∙ ap (λ z. mul m low z i) (whole_keeps a h)
      ∙ mul_comm m low small wide a h i hi
      ∙ whole a

  pub inverse_mul : (a : ℕ) → 0 < a → a < 2 ^ m → mul m low (inverse m low a) a ≡ 1
  inverse_mul a pos h = go (ones m low m a) refl (own_square (ones m low m a) (ones_lt m low small wide m a) (whole_own a h))
    where
      go : (e : ℕ) → e ≡ ones m low m a → ones m low m a < 2 → mul m low (inverse m low a) a ≡ 1
      go zero e l =
          let none : a ≡ 0 = sym (whole_keeps a h) ∙ ap (λ z. mul m low z a) (sym e) ∙ along_zero (twice m low) (Below m) (twice_linear m low small) m a in
          absurd (omega (arith, none))
      go (suc zero) e l = whole a ∙ sym e
      go (suc (suc n)) e l = absurd (omega (arith, e, l))

  pub inverse_none : inverse m low 0 ≡ 0
  unfolding inverse ones
  inverse_none = go m refl
    where
      z : ℕ → ℕ
      z k = ones m low k 0

      go : (k : ℕ) → k ≡ m → square m low (ones m low (m - 1) 0) ≡ 0
      go zero e = absurd (omega (arith, wide))
      go (suc zero) e = absurd (omega (arith, ok.wide))
      go (suc (suc k)) e =
          let p : m - 1 ≡ suc k = omega arith in
          let q : ones m low (suc k) 0 ≡ 0 = along_none (twice m low) m (square m low (ones m low k 0)) in
          ap (λ z. square m low (ones m low z 0)) p ∙ ap (square m low) q ∙ along_none (twice m low) m 0

  -- one inverse only
  pub inverse_only : (a c : ℕ) → 0 < a → a < 2 ^ m → c < 2 ^ m → mul m low a c ≡ 1 → c ≡ inverse m low a
  inverse_only a c pos ha hc e =
      let i = inverse m low a in
      let hi = inverse_lt a in
      sym (one_mul m low small wide c hc)
      ∙ ap (λ z. mul m low z c) (sym (inverse_mul a pos ha))
      ∙ mul_assoc m low small wide i hi a c ha hc
      ∙ ap (mul m low i) e
      ∙ mul_one m low small wide i

  inverse_pos : (a : ℕ) → 0 < a → a < 2 ^ m → 0 < inverse m low a
  inverse_pos a pos h = go (inverse m low a) refl
    where
      go : (i : ℕ) → i ≡ inverse m low a → 0 < inverse m low a
      go zero e =
          let bad : 1 ≡ 0 = sym (inverse_mul a pos h) ∙ ap (λ z. mul m low z a) (sym e) ∙ along_zero (twice m low) (Below m) (twice_linear m low small) m a in
          absurd (omega (arith, bad))
      go (suc i) e = omega (arith, e)

  -- it is its own inverse
  pub inverse_again : (a : ℕ) → a < 2 ^ m → inverse m low (inverse m low a) ≡ a
  inverse_again a h = go a refl
    where
      go : (k : ℕ) → k ≡ a → inverse m low (inverse m low a) ≡ a
      go zero e = ap (λ z. inverse m low (inverse m low z)) (sym e) ∙ ap (inverse m low) inverse_none ∙ inverse_none ∙ e
      go (suc k) e =
          let pos : 0 < a = omega (arith, e) in
          sym (inverse_only (inverse m low a) a (inverse_pos a pos h) (inverse_lt a) h (inverse_mul a pos h))

  pub inverse_is : (a : ℕ) → a < 2 ^ m → IsInverse m low a (inverse m low a)
  inverse_is a h =
      record {
        small = inverse_lt a;
        none = λ e. ap (inverse m low) e ∙ inverse_none;
        leaves = λ pos. subst (Leaves m low (product m a (inverse m low a))) (mul_comm m low small wide a h (inverse m low a) (inverse_lt a) ∙ inverse_mul a pos h)
            (product_leaves m low small wide a (inverse m low a) h (inverse_lt a));
        only = λ pos c hc l. inverse_only a c pos h hc (sym (product_left m low small wide a c 1 h l));
      }
