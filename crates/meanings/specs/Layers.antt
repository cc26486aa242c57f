-- The three layers over any codings, chained, turned and narrowed: first what each is, in the words of
-- the subject, and then the meanings that the code works out.
use Rattle.std.specs.Prelude.{◌≡◌, ℕ, zero, suc, ◌<◌, ◌≤◌, min, max, true, false, nat_le}
use Rattle.std.specs.Fn.{iterate}
use Rattle.meanings.specs.Meaning.{Meaning}

-- Where x comes to when it meets the coding m: up to the top to its code, above it it passes unchanged.
pub record Meets (m : Meaning) (x y : ℕ) : Type 0 where
  pub coded : x ≤ m.top → y ≡ m.rule x
  pub passed : m.top < x → y ≡ x

-- c is the chain of a and b: whichever top is larger is its own, and a number meets a, then b.
pub record IsChain (a b c : Meaning) : Type 0 where
  pub top : c.top ≡ max a.top b.top
  pub rule : (x : ℕ) → x ≤ c.top → (w : ℕ) × Meets a x w × Meets b w (c.rule x)

-- b is a turned: it has a's top, and codes y as the number whose code in a is y.
pub record IsTurned (a b : Meaning) : Type 0 where
  pub top : b.top ≡ a.top
  pub lands : (y : ℕ) → y ≤ b.top → b.rule y ≤ a.top
  pub rule : (y : ℕ) → y ≤ b.top → a.rule (b.rule y) ≡ y

-- y is the first number at most t that one or more applications of f reach from x: 1 + `more`
-- applications reach it, and each number reached before it is above t.
pub record FirstWithin (f : ℕ → ℕ) (t x y : ℕ) : Type 0 where
  pub more : ℕ
  pub reached : iterate f more (f x) ≡ y
  pub small : y ≤ t
  pub earlier : (j : ℕ) → j < more → t < iterate f j (f x)

-- b is a narrowed to t: its top is the smaller of t and a's top, and the code of x is the first number
-- at most the new top that one or more applications of a's rule reach.
pub record IsNarrowed (t : ℕ) (a b : Meaning) : Type 0 where
  pub top : b.top ≡ min t a.top
  pub rule : (x : ℕ) → x ≤ b.top → FirstWithin a.rule b.top x (b.rule x)

-- A rule stretched over all numbers: above the top a number passes unchanged.
abbrev pub stretched : Meaning → ℕ → ℕ
stretched m x = elim (nat_le x m.top) [ true ↦ m.rule x | false ↦ x ]

abbrev pub turned : Meaning → Meaning
turned m = record { top = m.top; rule = m.back; back = m.rule }

abbrev pub chained : Meaning → Meaning → Meaning
chained a b = record {
  top = max a.top b.top;
  rule = λ x. stretched b (stretched a x);
  back = λ y. stretched (turned a) (stretched (turned b) y);
}

-- From w on, f again until the number is at most t, at most `fuel` times. The orbit of a one-to-one rule
-- comes home, so a fuel of the rule's top is always enough. It branches by `elim`, which leaves the way
-- not taken alone: the fuel can be 2^64 - 1.
unfoldable pub walk : (fuel t : ℕ) → (ℕ → ℕ) → ℕ → ℕ
walk zero t f w = w
walk (suc fuel) t f w = elim (nat_le w t) [ true ↦ w | false ↦ walk fuel t f (f w) ]

abbrev pub narrowed : ℕ → Meaning → Meaning
narrowed t m = record {
  top = min t m.top;
  rule = λ x. walk m.top (min t m.top) m.rule (m.rule x);
  back = λ y. walk m.top (min t m.top) m.back (m.back y);
}
