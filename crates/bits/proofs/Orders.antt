-- Where an order puts each bit, that moving and gathering undo each other, and which lists of places are orders.
use Rattle.std.proofs.Common.{◌≡◌, ℕ, zero, suc, ◌+◌, ◌*◌, ◌/◌, ◌%◌, ◌^◌, ◌<◌, ◌≤◌, false, not, eqb, ltb, ◌⊎◌, List, [], ◌∷◌, length, get_or, take, sum, map, sym, refl, ap, ◌∙◌, subst, inl, inr, mod-lt, mul_assoc, mul_comm, add-mul, pow-suc, zero-mul, mul-one, div-one, arith, pow_pos, pow_mono, pow-add, shr-shr}
use Rattle.std.specs.List.{enumerate_from}
use Rattle.std.proofs.lemmas.Nat.{shl_whole}
use Rattle.std.proofs.lemmas.List.{get_or_default, get_or_past, get_or-take, length-take-le}
use Rattle.std.proofs.lemmas.List.FromFn.{get_or-enumerate_from, length-enumerate_from}
use Rattle.std.proofs.lemmas.List.Sums.{sum_by-cons}
use Rattle.std.proofs.lemmas.Bool.{cases_eq, eq-eqb, lt-ltb, ltb-true, not-false, or_parts, cond-true, true≢false}
use Rattle.meanings.proofs.Pigeonhole.{pigeonhole, Meet}
use Rattle.bits.specs.Bits.{bit}
use Rattle.bits.specs.Orders.{IsOrder, moved, gathered, Undoes, Applied, Undone, among, Sound}
use Rattle.bits.proofs.Bits.{bit_below, bit_first, bit_half, bit_above, same_bits, put_there, put_other, put_below}

-- entries at different places differ
abbrev pub Apart : List ℕ → Type 0
Apart R = (i j : ℕ) → i < j → j < length R → get_or R i 0 ≡ get_or R j 0 → ⊥

-- no entry is v
abbrev pub Absent : ℕ → List ℕ → Type 0
Absent v R = (i : ℕ) → i < length R → get_or R i 0 ≡ v → ⊥

rest_apart : (r : ℕ) (rs : List ℕ) → Apart (r ∷ rs) → Apart rs
rest_apart r rs a i j h l e = a (suc i) (suc j) (omega arith) (omega arith) e

head_absent : (r : ℕ) (rs : List ℕ) → Apart (r ∷ rs) → Absent r rs
head_absent r rs a i h e = a 0 (suc i) (omega arith) (omega arith) (sym e)

-- moving puts nothing where the order has no place
pub moved_absent : (R : List ℕ) (x j : ℕ) → Apart R → Absent j R → bit (moved R x) j ≡ 0
unfolding moved
moved_absent [] x j a out = bit_above 0 0 j (omega arith) (omega arith)
moved_absent (r ∷ rs) x j a out =
    let none = moved_absent rs (x / 2) r (rest_apart r rs a) (head_absent r rs a) in
    put_other (moved rs (x / 2)) r (x % 2) none (mod-lt x (omega arith)) j (λ e. out 0 (omega arith) (sym e))
    ∙ moved_absent rs (x / 2) j (rest_apart r rs a) (λ i h e. out (suc i) (omega arith) e)

pub moved_bit : (R : List ℕ) (x : ℕ) → Apart R → (i : ℕ) → i < length R → bit (moved R x) (get_or R i 0) ≡ bit x i
unfolding moved
moved_bit [] x a i h = absurd (omega arith)
moved_bit (r ∷ rs) x a zero h =
    let none = moved_absent rs (x / 2) r (rest_apart r rs a) (head_absent r rs a) in
    put_there (moved rs (x / 2)) r (x % 2) none (mod-lt x (omega arith)) ∙ sym (bit_first x)
moved_bit (r ∷ rs) x a (suc i) h =
    let none = moved_absent rs (x / 2) r (rest_apart r rs a) (head_absent r rs a) in
    put_other (moved rs (x / 2)) r (x % 2) none (mod-lt x (omega arith)) (get_or rs i 0) (head_absent r rs a i (omega arith))
    ∙ moved_bit rs (x / 2) (rest_apart r rs a) i (omega arith)
    ∙ bit_half x i

pub moved_below : (n : ℕ) (R : List ℕ) (x : ℕ) → Apart R → ((i : ℕ) → i < length R → get_or R i 0 < n) → moved R x < 2 ^ n
unfolding moved
moved_below n [] x a below = pow_pos n
moved_below n (r ∷ rs) x a below =
    let none = moved_absent rs (x / 2) r (rest_apart r rs a) (head_absent r rs a) in
    put_below (moved rs (x / 2)) r (x % 2) none (mod-lt x (omega arith)) n (below 0 (omega arith))
    (moved_below n rs (x / 2) (rest_apart r rs a) (λ i h. below (suc i) (omega arith)))

pub gathered_below : (R : List ℕ) (y : ℕ) → gathered R y < 2 ^ length R
unfolding gathered
gathered_below [] y = omega arith
gathered_below (r ∷ rs) y = let p = pow-suc 2 (length rs) in let b = bit_below y r in let g = gathered_below rs y in omega arith

pub gathered_bit : (R : List ℕ) (y i : ℕ) → i < length R → bit (gathered R y) i ≡ bit y (get_or R i 0)
unfolding gathered
gathered_bit [] y i h = absurd (omega arith)
gathered_bit (r ∷ rs) y zero h = bit_first (bit y r + 2 * gathered rs y) ∙ (let b = bit_below y r in let e : (bit y r + 2 * gathered rs y) % 2 ≡ bit y r = omega arith in e)
gathered_bit (r ∷ rs) y (suc i) h =
    sym (bit_half (bit y r + 2 * gathered rs y) i)
    ∙ ap (λ z. bit z i) (let b = bit_below y r in let e : (bit y r + 2 * gathered rs y) / 2 ≡ gathered rs y = omega arith in e)
    ∙ gathered_bit rs y i (omega arith)

-- where v stands in a list, or that it does not
pub place_of : (v : ℕ) (R : List ℕ) → ((i : ℕ) × (i < length R) × (get_or R i 0 ≡ v)) ⊎ Absent v R
place_of v [] = inr (λ i h e. omega arith)
place_of v (r ∷ rs) = go (cases_eq r v) (place_of v rs)
  where
    go : (r ≡ v) ⊎ (r ≡ v → ⊥) → ((i : ℕ) × (i < length rs) × (get_or rs i 0 ≡ v)) ⊎ Absent v rs
        → ((i : ℕ) × (i < suc (length rs)) × (get_or (r ∷ rs) i 0 ≡ v)) ⊎ Absent v (r ∷ rs)
    go (inl e) _ = inl (0, omega arith, e)
    go (inr ne) (inl f) = inl (suc f.0, omega (arith, f.1), f.2)
    go (inr ne) (inr none) = inr at
      where
        at : Absent v (r ∷ rs)
        at zero h e = ne e
        at (suc i) h e = none i (omega arith) e

-- What holds of every order of n bits.
module _ (n : ℕ) (R : List ℕ) (o : IsOrder n R) where
  apart : Apart R
  apart i j h l e = let s = o.size in o.apart i j h (omega arith) e

  -- every place is named
  pub named : (j : ℕ) → j < n → (i : ℕ) × (i < n) × (get_or R i 0 ≡ j)
  named j h = go (place_of j R)
    where
      within : (i : ℕ) → i < n → get_or R i j ≡ get_or R i 0
      within i l = let s = o.size in get_or_default R i j 0 (omega arith)

      last : get_or R n j ≡ j
      last = let s = o.size in get_or_past R n j (omega arith)

      below : (i : ℕ) → i ≤ n → get_or R i j < n
      below i le = pick (cases_eq i n)
        where
          pick : (i ≡ n) ⊎ (i ≡ n → ⊥) → get_or R i j < n
          pick (inl e) = rw (e, last) h
          pick (inr ne) = let l : i < n = omega arith in rw (within i l) (o.below i l)

      meet : Absent j R → Meet (λ i. get_or R i j) n → ⊥
      meet none m = pick (cases_eq m.high n)
        where
          low : m.low < n
          low = omega (arith, m.apart, m.far)

          pick : (m.high ≡ n) ⊎ (m.high ≡ n → ⊥) → ⊥
          pick (inl e) = let s = o.size in none m.low (omega (arith, low)) (sym (within m.low low) ∙ m.agree ∙ ap (λ i. get_or R i j) e ∙ last)
          pick (inr ne) =
              let l : m.high < n = omega (arith, m.far) in
              o.apart m.low m.high m.apart l (sym (within m.low low) ∙ m.agree ∙ within m.high l)

      go : ((i : ℕ) × (i < length R) × (get_or R i 0 ≡ j)) ⊎ Absent j R → (i : ℕ) × (i < n) × (get_or R i 0 ≡ j)
      go (inl f) = (f.0, let s = o.size in omega (arith, f.1), f.2)
      go (inr none) = absurd (meet none (pigeonhole n (λ i. get_or R i j) below))

  pub order_moved_below : (x : ℕ) → moved R x < 2 ^ n
  order_moved_below x = moved_below n R x apart (λ i h. let s = o.size in o.below i (omega arith))

  pub order_moved_bit : (x i : ℕ) → i < n → bit (moved R x) (get_or R i 0) ≡ bit x i
  order_moved_bit x i h = let s = o.size in moved_bit R x apart i (omega arith)

  pub order_gathered_below : (y : ℕ) → gathered R y < 2 ^ n
  order_gathered_below y = subst (λ m. gathered R y < 2 ^ m) o.size (gathered_below R y)

  pub order_gathered_bit : (y i : ℕ) → i < n → bit (gathered R y) i ≡ bit y (get_or R i 0)
  order_gathered_bit y i h = let s = o.size in gathered_bit R y i (omega arith)

  pub undoes : Undoes n R
  undoes =
      record {
        back = λ x small. same_bits n _ _ (order_gathered_below (moved R x)) small (λ i h. order_gathered_bit (moved R x) i h ∙ order_moved_bit x i h);
        again = λ y small. same_bits n _ _ (order_moved_below (gathered R y)) small (λ j h. again y j (named j h));
      }
    where
      again : (y j : ℕ) → (i : ℕ) × (i < n) × (get_or R i 0 ≡ j) → bit (moved R (gathered R y)) j ≡ bit y j
      again y j f =
          ap (bit (moved R (gathered R y))) (sym f.2)
          ∙ order_moved_bit (gathered R y) f.0 f.1
          ∙ order_gathered_bit y f.0 f.1
          ∙ ap (bit y) f.2

  pub applied : (x r : ℕ) → r ≡ moved R x → Applied n R x r
  applied x r e = record { value = e; small = rw e (order_moved_below x); bits = λ i h. rw e (order_moved_bit x i h); undoes = undoes }

  pub undone : (y r : ℕ) → r ≡ gathered R y → Undone n R y r
  undone y r e = record { value = e; small = rw e (order_gathered_below y); bits = λ i h. rw e (order_gathered_bit y i h); undoes = undoes }

-- what is not among the entries is absent
pub among_absent : (v : ℕ) (xs : List ℕ) → among v xs ≡ false → Absent v xs
among_absent v [] e i h same = omega arith
among_absent v (x ∷ xs) e zero h same = true≢false (sym (eq-eqb x v same) ∙ (or_parts (eqb x v) (among v xs) e).0)
among_absent v (x ∷ xs) e (suc i) h same = among_absent v xs (or_parts (eqb x v) (among v xs) e).1 i (omega arith) same

-- A list without a fault is an order.
pub sound_order : (n : ℕ) (list : List ℕ) → n ≤ length list → Sound n list → IsOrder n (take n list)
sound_order n list long sound =
    record {
      size = length-take-le n list (omega arith);
      below = λ i h. rw (get_or-take n list i 0 h) (ltb-true (get_or list i 0) n (not-false (ltb (get_or list i 0) n) (both i h).0));
      apart = λ i j h l e.
          let hi : i < n = omega arith in
          among_absent (get_or list j 0) (take j list) (both j l).1 i (let s = length-take-le j list (omega arith) in omega arith)
          (get_or-take j list i 0 h ∙ sym (get_or-take n list i 0 hi) ∙ e ∙ get_or-take n list j 0 l);
    }
  where
    both : (i : ℕ) → i < n → (not (ltb (get_or list i 0) n) ≡ false) × (among (get_or list i 0) (take i list) ≡ false)
    both i h = or_parts _ _ (sym (cond-true (ltb i n) _ _ (lt-ltb i n h)) ∙ sound i (omega arith))

-- What the bits add one by one, from bit i on: each is shifted inside 64 bits, and their sum is what all of them make.
abbrev pub sent : ℕ → ℕ × ℕ → ℕ
sent x p = bit x p.0 * 2 ^ p.1 % 2 ^ 64

abbrev pub fetched : ℕ → ℕ × ℕ → ℕ
fetched y p = bit y p.1 * 2 ^ p.0 % 2 ^ 64

sum_cons : (x : ℕ) (xs : List ℕ) → sum (x ∷ xs) ≡ x + sum xs
sum_cons x xs = sum_by-cons (λ z. z) x xs

sent_from : (R : List ℕ) (x i : ℕ) → ((k : ℕ) → k < length R → get_or R k 0 < 64) → sum (map (sent x) (enumerate_from i R)) ≡ moved R (x / 2 ^ i)
unfolding moved
sent_from [] x i below = refl
sent_from (r ∷ rs) x i below =
    let digit = bit_below x i in
    let here : bit x i * 2 ^ r % 2 ^ 64 ≡ bit x i * 2 ^ r = shl_whole (bit x i) 1 r 64 (omega arith) (let b : r < 64 = below 0 (omega arith) in omega arith) in
    sum_cons (bit x i * 2 ^ r % 2 ^ 64) (map (sent x) (enumerate_from (i + 1) rs))
    ∙ ap (λ z. z + sum (map (sent x) (enumerate_from (i + 1) rs))) here
    ∙ ap (λ z. bit x i * 2 ^ r + z) (sent_from rs x (i + 1) (λ k h. below (suc k) (omega arith)) ∙ ap (moved rs) (sym (shr-shr x i 1)))

fetched_from : (R : List ℕ) (y i : ℕ) → i + length R ≤ 64 → sum (map (fetched y) (enumerate_from i R)) ≡ gathered R y * 2 ^ i
unfolding gathered
fetched_from [] y i fits = sym (zero-mul (2 ^ i))
fetched_from (r ∷ rs) y i fits =
    let g = gathered rs y in
    let digit = bit_below y r in
    let here : bit y r * 2 ^ i % 2 ^ 64 ≡ bit y r * 2 ^ i = shl_whole (bit y r) 1 i 64 (omega arith) (omega arith) in
    let p : 2 ^ (i + 1) ≡ 2 * 2 ^ i = pow-add 2 i 1 ∙ mul_comm (2 ^ i) 2 in
    sum_cons (bit y r * 2 ^ i % 2 ^ 64) (map (fetched y) (enumerate_from (i + 1) rs))
    ∙ ap (λ z. z + sum (map (fetched y) (enumerate_from (i + 1) rs))) here
    ∙ ap (λ z. bit y r * 2 ^ i + z) (fetched_from rs y (i + 1) (omega arith) ∙ ap (λ z. g * z) p ∙ sym (mul_assoc g 2 (2 ^ i)) ∙ ap (λ z. z * 2 ^ i) (mul_comm g 2))
    ∙ sym (add-mul (bit y r) (2 * g) (2 ^ i))

module _ (n : ℕ) (R : List ℕ) (o : IsOrder n R) (fits : n ≤ 64) where
  whole : 2 ^ n ≤ 2 ^ 64
  whole = pow_mono fits

  -- what the chain asks of the bit and the place at k
  pub shifts : (k : ℕ) (p : ℕ × ℕ) → k < length (enumerate_from 0 R) → p ≡ get_or (enumerate_from 0 R) k p → (p.0 < 64) × (p.1 < 64)
  shifts k p h e =
      let size = o.size in
      let long = length-enumerate_from 0 R in
      let here : k < length R = omega arith in
      let below = o.below k (omega arith) in
      let at = e ∙ get_or-enumerate_from 0 R k p here in
      let bit : p.0 ≡ 0 + k = ap (λ z. z.0) at in
      let place : p.1 ≡ get_or R k 0 = ap (λ z. z.1) at ∙ get_or_default R k p.1 0 here in
      (omega arith, omega arith)

  pub sent_sum : (x : ℕ) → sum (map (sent x) (enumerate_from 0 R)) ≡ moved R x
  sent_sum x = sent_from R x 0 (λ k h. let s = o.size in let b = o.below k (omega arith) in omega arith) ∙ ap (moved R) (div-one x)

  pub sent_fits : (x : ℕ) → sum (map (sent x) (enumerate_from 0 R)) < 2 ^ 64
  sent_fits x = rw (sent_sum x) (let b = order_moved_below n R o x in let w = whole in omega arith)

  pub fetched_sum : (y : ℕ) → sum (map (fetched y) (enumerate_from 0 R)) ≡ gathered R y
  fetched_sum y = fetched_from R y 0 (let s = o.size in omega arith) ∙ mul-one (gathered R y)

  pub fetched_fits : (y : ℕ) → sum (map (fetched y) (enumerate_from 0 R)) < 2 ^ 64
  fetched_fits y = rw (fetched_sum y) (let b = order_gathered_below n R o y in let w = whole in omega arith)
