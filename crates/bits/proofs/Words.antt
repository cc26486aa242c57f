-- Sums, differences and turns of numbers of n bits: what undoes what, and where a turn takes each bit.
use Rattle.std.proofs.Common.{◌≡◌, ℕ, ◌+◌, ◌-◌, ◌*◌, ◌/◌, ◌%◌, ◌^◌, ◌<◌, ◌≤◌, ◌⊎◌, sym, ap, ◌∙◌, subst, inl, inr, add-zero, mod-lt, mod-eq_of_lt, add_comm, div-add-mod', arith, pow_pos, pow-add, shr_lt}
use native.Mathlib.Nat.{div-eq_of_lt, mod-add-mod, add-mod-mod, add-mul-mod_self_right, add-mod_right, mul-mod_left, mod-eq-sub-mod}
use lib.Arith.{digits_lt}
use lib.Bits.{bit_or, or_shifted}
use lib.Pow.{ones_split, ones_lt, mod-mod-pow, high, mod-pow-add, shl-shr}
use Rattle.std.proofs.lemmas.Bool.{cases_lt}
use Rattle.bits.specs.Bits.{bit}
use Rattle.bits.specs.Words.{wrapped_sum, wrapped_difference, Cancels, Added, Taken, turned, turned_left, turned_right, TurnsBack, TurnedLeft, TurnedRight}
use Rattle.bits.proofs.Bits.{bit_mod, bit_low, bit_high, bit_shr, same_bits}

-- the lowest n of m bits set
pub ones_shr : (n m : ℕ) → n ≤ m → (2 ^ m - 1) / 2 ^ (m - n) ≡ 2 ^ n - 1
ones_shr n m h =
    let e : m ≡ n + (m - n) = omega arith in
    ap (λ k. (2 ^ k - 1) / 2 ^ (m - n)) e ∙ ap (λ y. y / 2 ^ (m - n)) (ones_split n (m - n)) ∙ high (2 ^ n - 1) (m - n) (ones_lt (m - n))

-- what counts modulo 2 ^ n survives a wrap at more bits
pub mod_wrapped : (n m x : ℕ) → n ≤ m → x % 2 ^ m % 2 ^ n ≡ x % 2 ^ n
mod_wrapped n m x h =
    let e : m ≡ (m - n) + n = omega arith in
    ap (λ k. x % 2 ^ k % 2 ^ n) e ∙ mod-mod-pow x (m - n) n

-- Modulo m: b added and taken away, and the other way round.
module _ (m a b : ℕ) (some : 0 < m) where
  whole : b + (m - b % m) ≡ b / m * m + m
  whole = let s = div-add-mod' b m in let l = mod-lt b some in omega arith

  pub add_take : ((a + b) % m + (m - b % m)) % m ≡ a % m
  add_take =
      mod-add-mod (a + b) m (m - b % m)
      ∙ ap (λ y. y % m) (let w = whole in let e : a + b + (m - b % m) ≡ a + b / m * m + m = omega arith in e)
      ∙ add-mod_right (a + b / m * m) m
      ∙ add-mul-mod_self_right a (b / m) m

  pub take_add : ((a + (m - b % m)) % m + b) % m ≡ a % m
  take_add =
      mod-add-mod (a + (m - b % m)) m b
      ∙ ap (λ y. y % m) (let w = whole in let e : a + (m - b % m) + b ≡ a + b / m * m + m = omega arith in e)
      ∙ add-mod_right (a + b / m * m) m
      ∙ add-mul-mod_self_right a (b / m) m

pub cancels : (n a b : ℕ) → Cancels n a b
cancels n a b = record { added = add_take (2 ^ n) a b (pow_pos n); taken = take_add (2 ^ n) a b (pow_pos n) }

-- a sum and a difference that wrap at more bits
pub sum_wrapped : (n m a b : ℕ) → n ≤ m → (a + b) % 2 ^ m % 2 ^ n ≡ wrapped_sum n a b
sum_wrapped n m a b h = mod_wrapped n m (a + b) h

pub less_wrapped : (n m a b : ℕ) → n ≤ m → b ≤ 2 ^ m → (a + (2 ^ m - b)) % 2 ^ m % 2 ^ n ≡ wrapped_difference n a b
less_wrapped n m a b h small =
    let d = a + (2 ^ m - b) in
    let back : d + b ≡ a + 2 ^ m = omega arith in
    let same : (d + b) % 2 ^ n ≡ a % 2 ^ n = ap (λ y. y % 2 ^ n) back ∙ sym (mod_wrapped n m (a + 2 ^ m) h) ∙ ap (λ y. y % 2 ^ n) (add-mod_right a (2 ^ m)) ∙ mod_wrapped n m a h in
    mod_wrapped n m d h
    ∙ sym (add_take (2 ^ n) d b (pow_pos n))
    ∙ ap (λ y. (y + (2 ^ n - b % 2 ^ n)) % 2 ^ n) same
    ∙ mod-add-mod a (2 ^ n) (2 ^ n - b % 2 ^ n)

-- what the code cuts from a sum or a difference of 64 bits
pub added : (n a b r : ℕ) → n ≤ 64 → r ≡ (a + b) % 2 ^ 64 % 2 ^ n → Added n a b r
added n a b r fits e = record { value = e ∙ sum_wrapped n 64 a b fits; cancels = cancels n a b }

pub taken : (n a b r : ℕ) → n ≤ 64 → b < 2 ^ 64 → r ≡ (a + (2 ^ 64 - b)) % 2 ^ 64 % 2 ^ n → Taken n a b r
taken n a b r fits small e = record { value = e ∙ less_wrapped n 64 a b fits (omega arith); cancels = cancels n a b }

-- a shift inside n bits: what passes the end is lost
pub shl_mod : (n j y : ℕ) → j ≤ n → y * 2 ^ j % 2 ^ n ≡ y % 2 ^ (n - j) * 2 ^ j
shl_mod n j y h =
    let e : n ≡ n - j + j = omega arith in
    ap (λ m. y * 2 ^ j % 2 ^ m) e
    ∙ mod-pow-add (y * 2 ^ j) (n - j) j
    ∙ ap (λ z. z % 2 ^ (n - j) * 2 ^ j + y * 2 ^ j % 2 ^ j) (shl-shr y j)
    ∙ ap (λ z. y % 2 ^ (n - j) * 2 ^ j + z) (mul-mod_left y (2 ^ j))
    ∙ add-zero (y % 2 ^ (n - j) * 2 ^ j)

-- A turn by j of a number of n bits.
module _ (n j y : ℕ) (part : j ≤ n) (small : y < 2 ^ n) where
  over : y / 2 ^ (n - j) < 2 ^ j
  over = let e : n ≡ j + (n - j) = omega arith in let s : y < 2 ^ (j + (n - j)) = subst (λ m. y < 2 ^ m) e small in shr_lt j (n - j) s

  pub turned_or : bit_or (y * 2 ^ j % 2 ^ n) (y / 2 ^ (n - j)) ≡ turned n j y
  turned_or = ap (λ z. bit_or z (y / 2 ^ (n - j))) (shl_mod n j y part) ∙ or_shifted (y % 2 ^ (n - j)) j (y / 2 ^ (n - j)) over

  pub turned_below : turned n j y < 2 ^ n
  turned_below =
      let e : n ≡ n - j + j = omega arith in
      let p : 2 ^ n ≡ 2 ^ (n - j) * 2 ^ j = ap (λ m. 2 ^ m) e ∙ pow-add 2 (n - j) j in
      let d : turned n j y < 2 ^ (n - j) * 2 ^ j = digits_lt (mod-lt y (pow_pos (n - j))) over in
      rw p d

  pub turned_bit : (i : ℕ) → i < n → bit (turned n j y) ((i + j) % n) ≡ bit y i
  turned_bit i h = go (cases_lt (i + j) n)
    where
      go : (i + j < n) ⊎ (n ≤ i + j) → bit (turned n j y) ((i + j) % n) ≡ bit y i
      go (inl below) =
          let at : (i + j) % n ≡ j + i = mod-eq_of_lt below ∙ add_comm i j in
          let low : i < n - j = omega arith in
          ap (bit (turned n j y)) at ∙ bit_high j (y % 2 ^ (n - j)) (y / 2 ^ (n - j)) i over ∙ bit_mod (n - j) y i low
      go (inr round) =
          let less : i + j - n < n = omega arith in
          let at : (i + j) % n ≡ i + j - n = mod-eq-sub-mod round ∙ mod-eq_of_lt less in
          let low : i + j - n < j = omega arith in
          let from : n - j + (i + j - n) ≡ i = omega arith in
          ap (bit (turned n j y)) at
          ∙ bit_low j (y % 2 ^ (n - j)) (y / 2 ^ (n - j)) (i + j - n) over low
          ∙ bit_shr y (n - j) (i + j - n)
          ∙ ap (bit y) from

pub turned_none : (n y : ℕ) → y < 2 ^ n → turned n 0 y ≡ y
turned_none n y small =
    let e : n - 0 ≡ n = omega arith in
    ap (λ m. y % 2 ^ m * 1 + y / 2 ^ m) e
    ∙ ap (λ z. z * 1 + y / 2 ^ n) (mod-eq_of_lt small)
    ∙ ap (λ z. y * 1 + z) (div-eq_of_lt small)
    ∙ (let e : y * 1 + 0 ≡ y = omega arith in e)

-- Turns by any k of the lowest n bits of x.
module _ (n k x : ℕ) (some : 0 < n) where
  part_of : k % n < n
  part_of = mod-lt k some

  pub turned_left_below : turned_left n k x < 2 ^ n
  unfolding turned_left
  turned_left_below = let p = part_of in turned_below n (k % n) (x % 2 ^ n) (omega arith) (mod-lt x (pow_pos n))

  pub turned_left_bit : (i : ℕ) → i < n → bit (turned_left n k x) ((i + k) % n) ≡ bit x i
  unfolding turned_left
  turned_left_bit i h =
      let p = part_of in
      ap (bit (turned_left n k x)) (sym (add-mod-mod i k n))
      ∙ turned_bit n (k % n) (x % 2 ^ n) (omega arith) (mod-lt x (pow_pos n)) i h
      ∙ bit_mod n x i h

pub turned_right_below : (n k x : ℕ) → 0 < n → turned_right n k x < 2 ^ n
unfolding turned_right
turned_right_below n k x some = turned_left_below n (n - k % n) x some

pub turned_right_bit : (n k x : ℕ) → 0 < n → (i : ℕ) → i < n → bit (turned_right n k x) i ≡ bit x ((i + k) % n)
unfolding turned_right
turned_right_bit n k x some i h =
    let at : ((i + k) % n + (n - k % n)) % n ≡ i = add_take n i k some ∙ mod-eq_of_lt h in
    ap (bit (turned_right n k x)) (sym at) ∙ turned_left_bit n (n - k % n) x some ((i + k) % n) (mod-lt (i + k) some)

pub turns_back : (n k x : ℕ) → 0 < n → TurnsBack n k x
turns_back n k x some =
    record {
      left = same_bits n _ _ (turned_right_below n k (turned_left n k x) some) (mod-lt x (pow_pos n))
          (λ i h. turned_right_bit n k (turned_left n k x) some i h ∙ turned_left_bit n k x some i h ∙ sym (bit_mod n x i h));
      right = same_bits n _ _ (turned_left_below n k (turned_right n k x) some) (mod-lt x (pow_pos n))
          (λ i h.
          let from = (i + (n - k % n)) % n in
          let at : (from + k) % n ≡ i = take_add n i k some ∙ mod-eq_of_lt h in
          ap (bit (turned_left n k (turned_right n k x))) (sym at)
          ∙ turned_left_bit n k (turned_right n k x) some from (mod-lt (i + (n - k % n)) some)
          ∙ turned_right_bit n k x some from (mod-lt (i + (n - k % n)) some)
          ∙ ap (bit x) at
          ∙ sym (bit_mod n x i h));
    }

pub turns_left : (n k x r : ℕ) → 1 ≤ n → r ≡ turned_left n k x → TurnedLeft n k x r
turns_left n k x r some e = record { value = e; small = rw e (turned_left_below n k x some); bits = λ i h. rw e (turned_left_bit n k x some i h); back = turns_back n k x some }

-- by what k lacks of a full turn, to the left
pub turns_right : (n k x r : ℕ) → 1 ≤ n → r ≡ turned_left n (n - k % n) x → TurnedRight n k x r
unfolding turned_right
turns_right n k x r some e = record { value = e; small = rw e (turned_right_below n k x some); bits = λ i h. rw e (turned_right_bit n k x some i h); back = turns_back n k x some }
