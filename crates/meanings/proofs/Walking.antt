-- The loop of a narrowed coding: what it keeps from turn to turn, why it ends, and where.
use Rattle.std.proofs.Common.{◌≡◌, ℕ, zero, suc, ◌<◌, ◌≤◌, min, true, false, leb, sym, refl, ap, ◌∙◌, subst, arith}
use Rattle.std.proofs.lemmas.Bool.{le-leb, lt-leb}
use Rattle.meanings.specs.Meaning.{Meaning, Lawful}
use Rattle.meanings.specs.Layers.{narrowed, walk}
use Rattle.meanings.proofs.Falls.{Falls}
use Rattle.meanings.proofs.Narrowing.{way}

-- how many applications the walk from w still makes
steps_left : (fuel t : ℕ) → (ℕ → ℕ) → ℕ → ℕ
steps_left zero t f w = zero
steps_left (suc fuel) t f w = elim (leb w t) [ true ↦ zero | false ↦ suc (steps_left fuel t f (f w)) ]

left_falls : (k fuel t : ℕ) (f : ℕ → ℕ) (w y : ℕ) → Falls k t f w y → k ≤ fuel → steps_left fuel t f w ≡ k
unfolding steps_left
left_falls zero zero t f w y h le = refl
left_falls zero (suc fuel) t f w y h le = rw (steps_left, le-leb w t h.0)
left_falls (suc k) zero t f w y h le = absurd (omega arith)
left_falls (suc k) (suc fuel) t f w y h le = rw (steps_left, lt-leb w t h.0) (ap suc (left_falls k fuel t f (f w) y h.1 (omega arith)))

pub left : ℕ → Meaning → ℕ → ℕ
left u m w = steps_left m.top u m.rule w

-- w lies on the way from x down to its code, which is at most u
pub record On (u : ℕ) (m : Meaning) (x w : ℕ) : Type 0 where
  pub inside : w ≤ m.top
  pub count : ℕ
  pub few : count ≤ m.top
  pub falls : Falls count u m.rule w (walk m.top u m.rule (m.rule x))

pub begins : (t u : ℕ) (m : Meaning) → Lawful m → (x : ℕ) → u ≡ min t m.top → x ≤ u → On u m x (m.rule x)
begins t u m l x e h =
    let w = way t m l x (rw e at h) in
    subst (λ n. On n m x (m.rule x)) (sym e) (record { inside = l.within x (omega arith); count = w.count; few = w.few; falls = w.falls })

-- at most u, it is the code
pub ends : (t u : ℕ) (m : Meaning) (x w : ℕ) → u ≡ min t m.top → On u m x w → w ≤ u → w ≡ (narrowed t m).rule x
ends t u m x w e on small = go on.count on.falls ∙ ap (λ n. walk m.top n m.rule (m.rule x)) e
  where
    go : (k : ℕ) → Falls k u m.rule w (walk m.top u m.rule (m.rule x)) → w ≡ walk m.top u m.rule (m.rule x)
    go zero h = h.1
    go (suc k) h = absurd (omega (arith, h.0))

-- above u, the next number lies on the way too, and fewer applications are left
pub goes_on : (u : ℕ) (m : Meaning) → Lawful m → (x w : ℕ) → On u m x w → u < w → On u m x (m.rule w) × (left u m (m.rule w) < left u m w)
unfolding left
goes_on u m l x w on above = go on.count on.few on.falls
  where
    go : (k : ℕ) → k ≤ m.top → Falls k u m.rule w (walk m.top u m.rule (m.rule x)) → On u m x (m.rule w) × (left u m (m.rule w) < left u m w)
    go zero few h = absurd (omega (arith, h.0))
    go (suc k) few h =
        let here = left_falls (suc k) m.top u m.rule w _ h few in
        let next = left_falls k m.top u m.rule (m.rule w) _ h.1 (omega arith) in
        (record { inside = l.within w on.inside; count = k; few = omega arith; falls = h.1 }, rw (here, next) (omega arith))
