-- Falls: the walk down from a number to the first one at most t, step by step.
use Rattle.std.proofs.Common.{◌≡◌, ℕ, zero, suc, ◌+◌, ◌<◌, ◌≤◌, ◌⊎◌, sym, refl, ◌∙◌, subst, inl, inr, zero-add, arith}
use Rattle.std.proofs.lemmas.Bool.{cases_lt, le-leb, lt-leb}
use Rattle.std.specs.Fn.{iterate}
use Rattle.meanings.specs.Meaning.{Meaning, Lawful}
use Rattle.meanings.specs.Layers.{walk, FirstWithin}

-- w comes to y, at most t, after k applications of f, each made on a number above t
abbrev pub Falls : ℕ → ℕ → (ℕ → ℕ) → ℕ → ℕ → Type 0
Falls zero t f w y = (w ≤ t) × (w ≡ y)
Falls (suc k) t f w y = (t < w) × Falls k t f (f w) y

pub record Fall (most t : ℕ) (f : ℕ → ℕ) (w : ℕ) : Type 0 where
  pub count : ℕ
  pub to : ℕ
  pub few : count ≤ most
  pub falls : Falls count t f w to

-- where some number of the walk is at most t, there is a first one
pub fall : (k t : ℕ) (f : ℕ → ℕ) (w : ℕ) → iterate f k w ≤ t → Fall k t f w
fall zero t f w h = record { count = zero; to = w; few = omega arith; falls = (h, refl) }
fall (suc k) t f w h = go (cases_lt t w) (fall k t f (f w) h)
  where
    go : (t < w) ⊎ (w ≤ t) → Fall k t f (f w) → Fall (suc k) t f w
    go (inl above) r = record { count = suc r.count; to = r.to; few = omega (arith, r.few); falls = (above, r.falls) }
    go (inr small) r = record { count = zero; to = w; few = omega arith; falls = (small, refl) }

pub falls_small : (k t : ℕ) (f : ℕ → ℕ) (w y : ℕ) → Falls k t f w y → y ≤ t
falls_small zero t f w y h = rw (sym h.1) h.0
falls_small (suc k) t f w y h = falls_small k t f (f w) y h.1

-- a walk has one end
pub falls_unique : (j k t : ℕ) (f : ℕ → ℕ) (w y z : ℕ) → Falls j t f w y → Falls k t f w z → y ≡ z
falls_unique zero zero t f w y z g h = sym g.1 ∙ h.1
falls_unique zero (suc k) t f w y z g h = absurd (omega (arith, g.0, h.0))
falls_unique (suc j) zero t f w y z g h = absurd (omega (arith, g.0, h.0))
falls_unique (suc j) (suc k) t f w y z g h = falls_unique j k t f (f w) y z g.1 h.1

-- the same where the limit and the start are given in two ways
pub falls_meet : (j k s t : ℕ) (f : ℕ → ℕ) (v w y z : ℕ) → s ≡ t → v ≡ w → Falls j s f v y → Falls k t f w z → y ≡ z
falls_meet j k s t f v w y z limits starts g h =
    falls_unique j k t f w y z (subst (λ n. Falls j n f w y) limits (subst (λ n. Falls j s f n y) starts g)) h

-- with fuel enough, `walk` gives the end
pub walk_falls : (k fuel t : ℕ) (f : ℕ → ℕ) (w y : ℕ) → Falls k t f w y → k ≤ fuel → walk fuel t f w ≡ y
unfolding walk
walk_falls zero zero t f w y h le = h.1
walk_falls zero (suc fuel) t f w y h le = rw (walk, le-leb w t h.0) h.1
walk_falls (suc k) zero t f w y h le = absurd (omega arith)
walk_falls (suc k) (suc fuel) t f w y h le = rw (walk, lt-leb w t h.0) (walk_falls k fuel t f (f w) y h.1 (omega arith))

-- the same in the words of the subject
pub falls_first : (k t : ℕ) (f : ℕ → ℕ) (x y : ℕ) → Falls k t f (f x) y → FirstWithin f t x y
falls_first k t f x y h = record { more = k; reached = end k (f x) h; small = falls_small k t f (f x) y h; earlier = before k (f x) h }
  where
    end : (k w : ℕ) → Falls k t f w y → iterate f k w ≡ y
    end zero w h = h.1
    end (suc k) w h = end k (f w) h.1

    before : (k w : ℕ) → Falls k t f w y → (j : ℕ) → j < k → t < iterate f j w
    before zero w h j lt = absurd (omega arith)
    before (suc k) w h zero lt = h.0
    before (suc k) w h (suc j) lt = before k (f w) h.1 j (omega arith)

-- a fall to t ends a fall to a lower limit u where its end is at most u
pub falls_lower : (k t u : ℕ) (f : ℕ → ℕ) (w v : ℕ) → u ≤ t → Falls k t f w v → v ≤ u → Falls k u f w v
falls_lower zero t u f w v le a small = (rw a.1 small, a.1)
falls_lower (suc k) t u f w v le a small = (omega (arith, a.0), falls_lower k t u f (f w) v le a.1 small)

-- where its end v is above u, the fall goes on from there
pub falls_on : (k i t u : ℕ) (f : ℕ → ℕ) (w v z : ℕ) → u ≤ t → Falls k t f w v → u < v → Falls i u f (f v) z → (n : ℕ) × Falls n u f w z
falls_on zero i t u f w v z le a above b = (suc i, rw a.1 (above, b))
falls_on (suc k) i t u f w v z le a above b =
    let r = falls_on k i t u f (f w) v z le a.1 above b in
    (suc r.0, (omega (arith, a.0), r.1))

-- Two rules that agree up to a number that neither passes have the same falls.
pub falls_like : (k t top : ℕ) (f g : ℕ → ℕ) (w y : ℕ) → ((x : ℕ) → x ≤ top → f x ≤ top) → ((x : ℕ) → x ≤ top → f x ≡ g x) → w ≤ top → Falls k t f w y → Falls k t g w y
falls_like zero t top f g w y within same le h = h
falls_like (suc k) t top f g w y within same le h =
    (h.0, rw (sym (same w le)) (falls_like k t top f g (f w) y within same (within w le) h.1))

-- A fall of the rule walked the other way: x is what the way back from w comes to.
pub falls_back : (m : Meaning) (l : Lawful m) (k j t w x y : ℕ) → w ≤ m.top → Falls k t m.rule w y → Falls j t m.back (m.back w) x → Falls (k + j) t m.back (m.back y) x
falls_back m l zero j t w x y le h g = rw (zero-add, sym h.1) g
falls_back m l (suc k) j t w x y le h g =
    let e : suc k + j ≡ k + suc j = omega arith in
    rw e (falls_back m l k (suc j) t (m.rule w) x y (l.within w le) h.1 (rw (l.undoes w le) (h.0, g)))
