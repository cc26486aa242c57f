-- Numbers of n bits: their sums and differences wrap, and their bits can be turned round. Of a number with more
-- bits the lowest n count.
use Rattle.std.specs.Prelude.{◌≡◌, ℕ, ◌+◌, ◌-◌, ◌*◌, ◌/◌, ◌%◌, ◌^◌, ◌<◌}
use Rattle.bits.specs.Bits.{bit}

-- a + b and a - b, wrapped.
abbrev pub wrapped_sum : ℕ → ℕ → ℕ → ℕ
wrapped_sum n a b = (a + b) % 2 ^ n

abbrev pub wrapped_difference : ℕ → ℕ → ℕ → ℕ
wrapped_difference n a b = (a + (2 ^ n - b % 2 ^ n)) % 2 ^ n

-- Adding b and taking it away again leaves a, either way round.
pub record Cancels (n a b : ℕ) : Type 0 where
  pub added : wrapped_difference n (wrapped_sum n a b) b ≡ a % 2 ^ n
  pub taken : wrapped_sum n (wrapped_difference n a b) b ≡ a % 2 ^ n

-- r is a + b, wrapped.
pub record Added (n a b r : ℕ) : Type 0 where
  pub value : r ≡ wrapped_sum n a b
  pub cancels : Cancels n a b

-- r is a - b, wrapped.
pub record Taken (n a b r : ℕ) : Type 0 where
  pub value : r ≡ wrapped_difference n a b
  pub cancels : Cancels n a b

-- The number of n bits y, turned left by j places: the upper j bits come round to the low end.
abbrev pub turned : ℕ → ℕ → ℕ → ℕ
turned n j y = y % 2 ^ (n - j) * 2 ^ j + y / 2 ^ (n - j)

-- A full turn changes nothing, so only k % n counts.
unfoldable pub turned_left : ℕ → ℕ → ℕ → ℕ
turned_left n k x = turned n (k % n) (x % 2 ^ n)

-- To the right by k is to the left by what k lacks of a full turn.
unfoldable pub turned_right : ℕ → ℕ → ℕ → ℕ
turned_right n k x = turned_left n (n - k % n) x

-- A turn to the left and one to the right by as much undo each other.
pub record TurnsBack (n k x : ℕ) : Type 0 where
  pub left : turned_right n k (turned_left n k x) ≡ x % 2 ^ n
  pub right : turned_left n k (turned_right n k x) ≡ x % 2 ^ n

-- r is x turned left by k: each of its n bits moves up by k, and those that pass the end come round.
pub record TurnedLeft (n k x r : ℕ) : Type 0 where
  pub value : r ≡ turned_left n k x
  pub small : r < 2 ^ n
  pub bits : (i : ℕ) → i < n → bit r ((i + k) % n) ≡ bit x i
  pub back : TurnsBack n k x

-- r is x turned right by k: each of its n bits moves down by k, and those that pass the end come round.
pub record TurnedRight (n k x r : ℕ) : Type 0 where
  pub value : r ≡ turned_right n k x
  pub small : r < 2 ^ n
  pub bits : (i : ℕ) → i < n → bit r i ≡ bit x ((i + k) % n)
  pub back : TurnsBack n k x
