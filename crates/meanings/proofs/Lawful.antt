-- Each supplied coding and each layer is lawful, and is what its words say; a lawful coding uses each
-- number once as a code.
use Rattle.std.proofs.Common.{◌≡◌, ℕ, ◌+◌, ◌-◌, ◌%◌, ◌<◌, ◌≤◌, max, ◌⊎◌, refl, ap, ◌∙◌, inl, inr, mod-lt, mod-eq_of_lt, arith}
use native.Mathlib.Nat.{mod-eq-sub-mod}
use Rattle.std.proofs.lemmas.Bool.{cases_lt, le-leb, lt-leb}
use Rattle.meanings.specs.Meaning.{Meaning, Lawful, EachOnce}
use Rattle.meanings.specs.Layers.{stretched, turned, chained, Meets, IsChain, IsTurned}
use Rattle.meanings.specs.Supplied.{clear, plus}
use Rattle.meanings.proofs.Orbits.{one_to_one}
use Rattle.meanings.proofs.Narrowing.{turned_lawful}

pub each_once : (m : Meaning) → Lawful m → EachOnce m
each_once m l = record { within = l.within; used = λ y h. (m.back y, l.lands y h, l.redoes y h); once = one_to_one m l }

-- up to the top the stretched rule is the rule, above it nothing
pub stretched_in : (m : Meaning) (x : ℕ) → x ≤ m.top → stretched m x ≡ m.rule x
stretched_in m x h = rw (stretched, le-leb x m.top h)

pub stretched_out : (m : Meaning) (x : ℕ) → m.top < x → stretched m x ≡ x
stretched_out m x h = rw (stretched, lt-leb x m.top h)

pub stretched_meets : (m : Meaning) (x : ℕ) → Meets m x (stretched m x)
stretched_meets m x = record { coded = stretched_in m x; passed = stretched_out m x }

-- a number below any limit that the top is below stays below it
stretched_within : (m : Meaning) → Lawful m → (n x : ℕ) → m.top ≤ n → x ≤ n → stretched m x ≤ n
stretched_within m l n x low h = go (cases_lt m.top x)
  where
    go : (m.top < x) ⊎ (x ≤ m.top) → stretched m x ≤ n
    go (inl out) = rw (stretched_out m x out) h
    go (inr ins) = rw (stretched_in m x ins) (let w = l.within x ins in omega arith)

stretched_undoes : (m : Meaning) → Lawful m → (x : ℕ) → stretched (turned m) (stretched m x) ≡ x
stretched_undoes m l x = go (cases_lt m.top x)
  where
    go : (m.top < x) ⊎ (x ≤ m.top) → stretched (turned m) (stretched m x) ≡ x
    go (inl out) = ap (stretched (turned m)) (stretched_out m x out) ∙ stretched_out (turned m) x out
    go (inr ins) = ap (stretched (turned m)) (stretched_in m x ins) ∙ stretched_in (turned m) (m.rule x) (l.within x ins) ∙ l.undoes x ins

chained_within : (a b : Meaning) → Lawful a → Lawful b → (x : ℕ) → x ≤ max a.top b.top → (chained a b).rule x ≤ max a.top b.top
chained_within a b la lb x h =
    stretched_within b lb _ _ (omega arith) (stretched_within a la _ x (omega arith) h)

chained_undoes : (a b : Meaning) → Lawful a → Lawful b → (x : ℕ) → (chained a b).back ((chained a b).rule x) ≡ x
chained_undoes a b la lb x = ap (stretched (turned a)) (stretched_undoes b lb (stretched a x)) ∙ stretched_undoes a la x

pub chained_lawful : (a b : Meaning) → Lawful a → Lawful b → Lawful (chained a b)
chained_lawful a b la lb =
    let ta = turned_lawful a la in
    let tb = turned_lawful b lb in
    record {
      within = chained_within a b la lb;
      lands = λ y h. stretched_within (turned a) ta _ _ (omega arith) (stretched_within (turned b) tb _ y (omega arith) h);
      undoes = λ x h. chained_undoes a b la lb x;
      redoes = λ y h. chained_undoes (turned b) (turned a) tb ta y;
    }

pub chained_is : (a b : Meaning) → IsChain a b (chained a b)
chained_is a b = record { top = refl; rule = λ x h. (stretched a x, stretched_meets a x, stretched_meets b (stretched a x)) }

pub turned_is : (a : Meaning) → Lawful a → IsTurned a (turned a)
turned_is a l = record { top = refl; lands = l.lands; rule = l.redoes }

pub clear_lawful : (t : ℕ) → Lawful (clear t)
clear_lawful t = record { within = λ x h. h; lands = λ y h. h; undoes = λ x h. refl; redoes = λ y h. refl }

-- (x + k) mod (t + 1) with one comparison in the place of the remainder
pub plus_low : (t k x : ℕ) → x + k ≤ t → (x + k) % (t + 1) ≡ x + k
plus_low t k x h = mod-eq_of_lt (omega arith)

pub plus_high : (t k x : ℕ) → x ≤ t → k ≤ t → t < x + k → (x + k) % (t + 1) ≡ x + k - (t + 1)
plus_high t k x hx hk h =
    let over : t + 1 ≤ x + k = omega arith in
    let rest : x + k - (t + 1) < t + 1 = omega arith in
    mod-eq-sub-mod over ∙ mod-eq_of_lt rest

-- the way back by its two cases
plus_down : (t k y : ℕ) → k ≤ y → (plus t k).back y ≡ y - k
plus_down t k y h = rw (plus, le-leb k y h)

plus_round : (t k y : ℕ) → y < k → (plus t k).back y ≡ y + (t + 1) - k
plus_round t k y h = rw (plus, lt-leb k y h)

plus_lands : (t k y : ℕ) → k ≤ t → y ≤ t → (plus t k).back y ≤ t
plus_lands t k y hk hy = go (cases_lt y k)
  where
    go : (y < k) ⊎ (k ≤ y) → (plus t k).back y ≤ t
    go (inl low) = omega (arith, plus_round t k y low)
    go (inr high) = omega (arith, plus_down t k y high)

plus_undoes : (t k x : ℕ) → k ≤ t → x ≤ t → (plus t k).back ((x + k) % (t + 1)) ≡ x
plus_undoes t k x hk hx = go (cases_lt t (x + k))
  where
    go : (t < x + k) ⊎ (x + k ≤ t) → (plus t k).back ((x + k) % (t + 1)) ≡ x
    go (inl over) =
        let low : x + k - (t + 1) < k = omega arith in
        let s : x + k - (t + 1) + (t + 1) - k ≡ x = omega arith in
        ap (plus t k).back (plus_high t k x hx hk over) ∙ plus_round t k (x + k - (t + 1)) low ∙ s
    go (inr low) =
        let s : x + k - k ≡ x = omega arith in
        ap (plus t k).back (plus_low t k x low) ∙ plus_down t k (x + k) (omega arith) ∙ s

plus_redoes : (t k y : ℕ) → k ≤ t → y ≤ t → ((plus t k).back y + k) % (t + 1) ≡ y
plus_redoes t k y hk hy = go (cases_lt y k)
  where
    go : (y < k) ⊎ (k ≤ y) → ((plus t k).back y + k) % (t + 1) ≡ y
    go (inl low) =
        let s : y + (t + 1) - k + k - (t + 1) ≡ y = omega arith in
        ap (λ n. (n + k) % (t + 1)) (plus_round t k y low) ∙ plus_high t k (y + (t + 1) - k) (omega arith) hk (omega arith) ∙ s
    go (inr high) =
        let s : y - k + k ≡ y = omega arith in
        ap (λ n. (n + k) % (t + 1)) (plus_down t k y high) ∙ plus_low t k (y - k) (omega arith) ∙ s

pub plus_lawful : (t k : ℕ) → k ≤ t → Lawful (plus t k)
plus_lawful t k h =
    record {
      within = λ x _. below (x + k);
      lands = λ y hy. plus_lands t k y h hy;
      undoes = λ x hx. plus_undoes t k x h hx;
      redoes = λ y hy. plus_redoes t k y h hy;
    }
  where
    below : (n : ℕ) → n % (t + 1) ≤ t
    below n = let lt : n % (t + 1) < t + 1 = mod-lt n (omega arith) in omega arith
