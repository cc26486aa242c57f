-- What a coding means, what makes a meaning lawful, and when two codings are equal.
use Rattle.std.specs.Prelude.{◌≡◌, ℕ, ◌≤◌}

-- A coding replaces numbers by codes. It has a top, the largest number that it takes, and a rule, which
-- gives the code of each number up to the top. `back` is the way back, from a code to its number.
-- What `rule` and `back` do above the top says nothing: no promise speaks of it.
pub record Meaning : Type 0 where
  pub top : ℕ
  pub rule : ℕ → ℕ
  pub back : ℕ → ℕ

-- What whoever adds a coding shows: codes and numbers stay within the top, back undoes the rule, and the
-- rule undoes back.
pub record Lawful (m : Meaning) : Type 0 where
  pub within : (x : ℕ) → x ≤ m.top → m.rule x ≤ m.top
  pub lands : (y : ℕ) → y ≤ m.top → m.back y ≤ m.top
  pub undoes : (x : ℕ) → x ≤ m.top → m.back (m.rule x) ≡ x
  pub redoes : (y : ℕ) → y ≤ m.top → m.rule (m.back y) ≡ y

-- Two codings are equal when their tops and their rules are; a rule counts up to the top.
pub record Same (a b : Meaning) : Type 0 where
  pub tops : a.top ≡ b.top
  pub rules : (x : ℕ) → x ≤ a.top → a.rule x ≡ b.rule x

-- Equal codings have equal ways back.
pub record SameBack (a b : Meaning) : Type 0 where
  pub backs : (y : ℕ) → y ≤ a.top → a.back y ≡ b.back y

-- Equal codings, with their ways back.
pub record Equal (a b : Meaning) : Type 0 where
  pub same : Same a b
  pub backs : SameBack a b

-- Each number up to the top is used exactly once as a code: it is the code of some number up to the top
-- (`used`), and of no two (`once`); and no code lies above the top (`within`).
pub record EachOnce (m : Meaning) : Type 0 where
  pub within : (x : ℕ) → x ≤ m.top → m.rule x ≤ m.top
  pub used : (y : ℕ) → y ≤ m.top → (x : ℕ) × (x ≤ m.top) × (m.rule x ≡ y)
  pub once : (x z : ℕ) → x ≤ m.top → z ≤ m.top → m.rule x ≡ m.rule z → x ≡ z
