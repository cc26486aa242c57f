-- Orders of the bits of a number. An order of n bits is a list of n places, and moves bit i to the place that the
-- list has at i.
use Rattle.std.specs.Prelude.{◌≡◌, ℕ, ◌+◌, ◌*◌, ◌/◌, ◌%◌, ◌^◌, ◌<◌, Bool, true, false, cond, not, ◌||◌, List, [], ◌∷◌, length, take, ◌==◌, ◌≢◌, nat_lt, slice_index}
use Rattle.bits.specs.Bits.{bit}

-- As many entries as bits, each below n, and entries at different places differ.
pub record IsOrder (n : ℕ) (R : List ℕ) : Type 0 where
  pub size : length R ≡ n
  pub below : (i : ℕ) → i < n → slice_index R i < n
  pub apart : (i j : ℕ) → i < j → j < n → slice_index R i ≢ slice_index R j

-- Every bit of x put to its place.
unfoldable pub moved : List ℕ → ℕ → ℕ
moved [] x = 0
moved (r ∷ rs) x = x % 2 * 2 ^ r + moved rs (x / 2)

-- Every bit of y fetched from its place.
unfoldable pub gathered : List ℕ → ℕ → ℕ
gathered [] y = 0
gathered (r ∷ rs) y = bit y r + 2 * gathered rs y

-- Moving and gathering undo each other on numbers of n bits.
pub record Undoes (n : ℕ) (R : List ℕ) : Type 0 where
  pub back : (x : ℕ) → x < 2 ^ n → gathered R (moved R x) ≡ x
  pub again : (y : ℕ) → y < 2 ^ n → moved R (gathered R y) ≡ y

-- r is x with its bits in the order R.
pub record Applied (n : ℕ) (R : List ℕ) (x r : ℕ) : Type 0 where
  pub value : r ≡ moved R x
  pub small : r < 2 ^ n
  pub bits : (i : ℕ) → i < n → bit r (slice_index R i) ≡ bit x i
  pub undoes : Undoes n R

-- r is y with its bits put back from the order R.
pub record Undone (n : ℕ) (R : List ℕ) (y r : ℕ) : Type 0 where
  pub value : r ≡ gathered R y
  pub small : r < 2 ^ n
  pub bits : (i : ℕ) → i < n → bit r i ≡ bit y (slice_index R i)
  pub undoes : Undoes n R

-- An order is given as a list that may be longer: the first n places count, and the others are 0.

-- v is an entry of the list.
abbrev pub among : ℕ → List ℕ → Bool
among v [] = false
among v (x ∷ xs) = x == v || among v xs

-- The place at i is at fault: it is not below n or stands before i too, or i is not below n and it is not 0.
abbrev pub fault_at : ℕ → List ℕ → ℕ → Bool
fault_at n list i =
    cond (nat_lt i n)
    (not (nat_lt (slice_index list i) n) || among (slice_index list i) (take i list))
    (not (slice_index list i == 0))

-- No place is at fault.
abbrev pub Sound : ℕ → List ℕ → Type 0
Sound n list = (i : ℕ) → i < length list → fault_at n list i ≡ false

-- The first fault is at p.
pub record FirstFault (n : ℕ) (list : List ℕ) (p : ℕ) : Type 0 where
  pub within : p < length list
  pub fault : fault_at n list p ≡ true
  pub first : (i : ℕ) → i < p → fault_at n list i ≡ false
