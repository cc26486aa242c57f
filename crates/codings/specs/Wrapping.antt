-- A sum modulo t + 1 by one comparison.
use Rattle.std.specs.Prelude.{◌≡◌, ℕ, ◌+◌, ◌-◌, ◌%◌, ◌<◌, ◌≤◌, Bool, true, false}

-- Whether x + k passes the top t, and what it leaves modulo t + 1 in either case.
abbrev pub Wraps : (t k x : ℕ) → Bool → Type 0
Wraps t k x true = (t < x + k) × ((x + k) % (t + 1) ≡ x + k - (t + 1))
Wraps t k x false = (x + k ≤ t) × ((x + k) % (t + 1) ≡ x + k)
