-- What an answer of the reader tells: a draft that is spelt has sound parts, and a fault is the first no.
use Rattle.std.proofs.Common.{◌≡◌, ℕ, ◌+◌, ◌^◌, ◌<◌, ◌≤◌, true, false, ◌⊎◌, List, [], ◌∷◌, length, take, get_or, Ok, Err, Result, sym, refl, ap, ◌∙◌, subst, inl, inr, arith}
use Rattle.std.specs.List.{AllByRecursion}
use Rattle.std.proofs.lemmas.Bool.{cases_lt}
use Rattle.bits.specs.Orders.{IsOrder, Sound}
use Rattle.bits.proofs.Orders.{sound_order}
use Rattle.spelling.specs.declared.parts.Parts.{Parts}
use Rattle.spelling.specs.declared.command.Part.{Part as PartT}
use Rattle.spelling.specs.declared.command.Part.TheVariants.{Flow, C0, C1, Order}
use Rattle.spelling.specs.Commands.{index_of, place_of, part_operands, wide_place, order_size}
use Rattle.spelling.specs.Sound.{SoundParts}
use Rattle.spelling.specs.declared.fault.Fault.{Fault}
use Rattle.spelling.specs.Told.{Told}
use Rattle.spelling.specs.Items.{Item, Right, Fits, Given}
use Rattle.spelling.specs.Spelling.{Has, Holds, Spells, FirstNo}
use Rattle.spelling.proofs.Items.{six_cases}
use Rattle.spelling.proofs.Running.{read_parts}
use Rattle.spelling.proofs.Spelling.{Found, found, spells_accepted, fault_refused}

-- the item of a place
record Placed (n : ℕ) (p : Parts) (k : ℕ) : Type 0 where
  part : PartT
  operand : List ℕ
  at : place_of part ≡ k
  long : length operand ≡ part_operands part
  fits : Fits n part operand
  has : Holds p part operand

placed : (n : ℕ) (p : Parts) (k : ℕ) (is : List Item) → Given k is → AllByRecursion (Right n) is → AllByRecursion (Has p) is → Placed n p k
placed n p k [] g r h = absurd g
placed n p k (i ∷ is) (inl e) r h = record { part = i.part; operand = i.operand; at = e; long = r.0.long; fits = r.0.fits; has = h.0 }
placed n p k (i ∷ is) (inr g) r h = placed n p k is g r.1 h.1

-- an order's list
record Listed (n : ℕ) (p : Parts) (j : ℕ) : Type 0 where
  long : length (get_or p.orders j []) ≡ 64
  sound : Sound (order_size n j) (get_or p.orders j [])

listed : (n : ℕ) (p : Parts) (j : ℕ) → Placed n p (3 + j) → Listed n p j
listed n p j f = go f.part f.at f.long f.fits f.has
  where
    go : (q : PartT) → place_of q ≡ 3 + j → length f.operand ≡ part_operands q → Fits n q f.operand → Holds p q f.operand → Listed n p j
    go (Flow w) at long fits has = absurd (omega arith)
    go C0 at long fits has = absurd (omega arith)
    go C1 at long fits has = absurd (omega arith)
    go (Order k) at long fits has =
        let same : index_of k ≡ j = omega arith in
        let there : get_or p.orders j [] ≡ f.operand = ap (λ z. get_or p.orders z []) (sym same) ∙ has in
        record { long = ap length there ∙ long; sound = rw there (subst (λ z. Sound (order_size n z) f.operand) same fits) }

constant : (n : ℕ) (p : Parts) → Placed n p 1 → p.c0 < 2 ^ n
constant n p f = go f.part f.at f.fits f.has
  where
    go : (q : PartT) → place_of q ≡ 1 → Fits n q f.operand → Holds p q f.operand → p.c0 < 2 ^ n
    go (Flow w) at fits has = absurd (omega arith)
    go C0 at fits has = rw has fits
    go C1 at fits has = absurd (omega arith)
    go (Order k) at fits has = absurd (omega arith)

pub spells_sound : (bytes : List ℕ) (p : Parts) → Spells bytes p → SoundParts p
spells_sound bytes p s =
    record {
      least = s.least;
      most = s.most;
      small = constant n p (at 1 (omega arith) (λ e. cc));
      six = s.six;
      long = six_cases (λ j. length (get_or p.orders j []) ≡ 64) (low 0 (omega arith) refl).long (low 1 (omega arith) refl).long
          (low 2 (omega arith) refl).long (low 3 (omega arith) refl).long (four (cases_lt 32 n)) (five (cases_lt 32 n));
      r0 = (low 0 (omega arith) refl).sound;
      r1 = (low 1 (omega arith) refl).sound;
      r2 = (low 2 (omega arith) refl).sound;
      r3 = (low 3 (omega arith) refl).sound;
      r4 = λ wide. (high 4 (omega arith) wide).sound;
      r5 = λ wide. (high 5 (omega arith) wide).sound;
      order0 = ordered n 0 s.most (low 0 (omega arith) refl).long (low 0 (omega arith) refl).sound;
      order1 = ordered n 1 s.most (low 1 (omega arith) refl).long (low 1 (omega arith) refl).sound;
      order2 = ordered n 2 s.most (low 2 (omega arith) refl).long (low 2 (omega arith) refl).sound;
      order3 = ordered n 3 s.most (low 3 (omega arith) refl).long (low 3 (omega arith) refl).sound;
      order4 = λ wide. ordered 64 4 (omega arith) (high 4 (omega arith) wide).long (high 4 (omega arith) wide).sound;
      order5 = λ wide. ordered 64 5 (omega arith) (high 5 (omega arith) wide).long (high 5 (omega arith) wide).sound;
    }
  where
    n : ℕ
    n = p.width

    ordered : (m j : ℕ) → m ≤ 64 → length (get_or p.orders j []) ≡ 64 → Sound m (get_or p.orders j []) → IsOrder m (take m (get_or p.orders j []))
    ordered m j fits long sound = sound_order m (get_or p.orders j []) (omega arith) sound

    at : (k : ℕ) → k < 9 → (wide_place k ≡ true → 32 < n) → Placed n p k
    at k few wide = placed n p k s.items (s.all k (few, wide)) s.right s.has

    low : (j : ℕ) → j < 4 → wide_place (3 + j) ≡ false → Listed n p j
    low j small narrow = listed n p j (at (3 + j) (omega arith) (λ e. cc))

    high : (j : ℕ) → j < 6 → 32 < n → Listed n p j
    high j small wide = listed n p j (at (3 + j) (omega arith) (λ e. wide))

    four : (32 < n) ⊎ (n ≤ 32) → length (get_or p.orders 4 []) ≡ 64
    four (inl wide) = (high 4 (omega arith) wide).long
    four (inr narrow) = ap length (s.unused narrow).1

    five : (32 < n) ⊎ (n ≤ 32) → length (get_or p.orders 5 []) ≡ 64
    five (inl wide) = (high 5 (omega arith) wide).long
    five (inr narrow) = ap length (s.unused narrow).2

-- what an answer of the reader tells
pub told : (bytes : List ℕ) (r : Result Parts Fault) → r ≡ read_parts bytes → Told bytes r
told bytes r e = go r e (subst (Found bytes) (sym e) (found (length bytes + 1) bytes (omega arith)))
  where
    spelt : (p : Parts) → Spells bytes p → read_parts bytes ≡ Ok p
    spelt p s = spells_accepted bytes p s (length bytes + 1) (omega arith)

    faulty : (f : Fault) → FirstNo bytes f → read_parts bytes ≡ Err f
    faulty f n = fault_refused bytes f n (length bytes + 1) (omega arith)

    go : (x : Result Parts Fault) → x ≡ read_parts bytes → Found bytes x → Told bytes x
    go (Ok p) is s = record {
      spells = s;
      sound = spells_sound bytes p s;
      only = λ q other. let m : ◌≡◌ {A = Result Parts Fault} (Ok p) (Ok q) = is ∙ spelt q other in cc;
      faultless = λ f n. let m : ◌≡◌ {A = Result Parts Fault} (Ok p) (Err f) = is ∙ faulty f n in cc;
    }
    go (Err f) is n = record {
      first = n;
      only = λ g other. let m : ◌≡◌ {A = Result Parts Fault} (Err f) (Err g) = is ∙ faulty g other in cc;
      unspelt = λ p s. let m : ◌≡◌ {A = Result Parts Fault} (Err f) (Ok p) = is ∙ spelt p s in cc;
    }
