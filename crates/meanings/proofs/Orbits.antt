-- The orbit of a number under a lawful rule comes home: some applications, one to top + 1 of them, lead
-- back to the number.
use Rattle.std.proofs.Common.{◌≡◌, ℕ, zero, suc, ◌+◌, ◌-◌, ◌≤◌, sym, refl, ap, ◌∙◌, suc-add, zero-add, arith}
use Rattle.std.specs.Fn.{iterate}
use Rattle.meanings.specs.Meaning.{Meaning, Lawful}
use Rattle.meanings.proofs.Pigeonhole.{pigeonhole, Meet}

-- the last application taken off
pub iterate_last : (k : ℕ) (f : ℕ → ℕ) (x : ℕ) → iterate f (suc k) x ≡ f (iterate f k x)
iterate_last zero f x = refl
iterate_last (suc k) f x = iterate_last k f (f x)

module _ (m : Meaning) (l : Lawful m) where
  pub one_to_one : (x z : ℕ) → x ≤ m.top → z ≤ m.top → m.rule x ≡ m.rule z → x ≡ z
  one_to_one x z hx hz e = sym (l.undoes x hx) ∙ ap m.back e ∙ l.undoes z hz

  pub iterate_within : (k x : ℕ) → x ≤ m.top → iterate m.rule k x ≤ m.top
  iterate_within zero x h = h
  iterate_within (suc k) x h = iterate_within k (m.rule x) (l.within x h)

  peel : (i d x : ℕ) → x ≤ m.top → iterate m.rule i x ≡ iterate m.rule (i + d) x → x ≡ iterate m.rule d x
  peel zero d x h e = e ∙ ap (λ n. iterate m.rule n x) (zero-add d)
  peel (suc i) d x h e =
      let f = m.rule in
      let e' : f (iterate f i x) ≡ f (iterate f (i + d) x) = sym (iterate_last i f x) ∙ e ∙ ap (λ n. iterate f n x) (suc-add i d) ∙ iterate_last (i + d) f x in
      peel i d x h (one_to_one _ _ (iterate_within i x h) (iterate_within (i + d) x h) e')

  pub comes_home : (x : ℕ) → x ≤ m.top → (k : ℕ) × (k ≤ m.top) × (iterate m.rule k (m.rule x) ≡ x)
  comes_home x h = go (pigeonhole (suc m.top) (λ i. iterate m.rule i x) (λ i le. let w = iterate_within i x h in omega arith))
    where
      go : Meet (λ i. iterate m.rule i x) (suc m.top) → (k : ℕ) × (k ≤ m.top) × (iterate m.rule k (m.rule x) ≡ x)
      go c =
          let d = c.high - c.low - 1 in
          let far : c.high ≡ c.low + suc d = omega (arith, c.apart) in
          (d, omega (arith, c.far, c.apart), sym (peel c.low (suc d) x h (c.agree ∙ ap (λ n. iterate m.rule n x) far)))
