-- The first fault of a list.
use Rattle.std.proofs.Common.{◌≡◌, ℕ, zero, suc, ◌+◌, ◌<◌, ◌≤◌, Bool, true, false, ◌⊎◌, List, length, Some, None, Option, sym, refl, ap, ◌∙◌, inl, inr, arith}
use Rattle.std.proofs.lemmas.Bool.{cases_eq}
use Rattle.bits.specs.Orders.{fault_at, FirstFault, Sound}
use Rattle.spelling.specs.Turns.{first_fault}

none_from : (n : ℕ) (list : List ℕ) (k i : ℕ) → ((j : ℕ) → i ≤ j → j < i + k → fault_at n list j ≡ false) → None ≡ first_fault n list k i
unfolding first_fault
none_from n list zero i none = refl
none_from n list (suc k) i none = rw (first_fault, none i (omega arith) (omega arith)) (none_from n list k (suc i) (λ j a b. none j (omega arith) (omega arith)))

found_from : (n : ℕ) (list : List ℕ) (k i p : ℕ) → i ≤ p → p < i + k → fault_at n list p ≡ true → ((j : ℕ) → i ≤ j → j < p → fault_at n list j ≡ false)
    → Some p ≡ first_fault n list k i
unfolding first_fault
found_from n list zero i p a b here none = absurd (omega arith)
found_from n list (suc k) i p a b here none = go (cases_eq i p) (λ ne. found_from n list k (suc i) p (omega arith) (omega arith) here (λ j c d. none j (omega arith) d))
  where
    go : (i ≡ p) ⊎ (i ≡ p → ⊥) → ((i ≡ p → ⊥) → Some p ≡ first_fault n list k (suc i))
        → Some p ≡ elim (fault_at n list i) [ true ↦ Some i | false ↦ first_fault n list k (suc i) ]
    go (inl e) later = rw (ap (fault_at n list) e, here) (ap Some (sym e))
    go (inr ne) later = rw (none i (omega arith) (omega arith)) (later ne)

pub none_at_fault : (n : ℕ) (list : List ℕ) → Sound n list → None ≡ first_fault n list (length list) 0
none_at_fault n list sound = none_from n list (length list) 0 (λ j a b. sound j (omega arith))

pub first_found : (n : ℕ) (list : List ℕ) (p : ℕ) → FirstFault n list p → Some p ≡ first_fault n list (length list) 0
first_found n list p f = found_from n list (length list) 0 p (omega arith) (omega (arith, f.within)) f.fault (λ j a b. f.first j b)

-- what was found is the first fault
found_means : (n : ℕ) (list : List ℕ) (k i p : ℕ) → first_fault n list k i ≡ Some p → (i ≤ p) × (p < i + k) × (fault_at n list p ≡ true)
    × ((j : ℕ) → i ≤ j → j < p → fault_at n list j ≡ false)
unfolding first_fault
found_means n list zero i p e = cc
found_means n list (suc k) i p e = go (fault_at n list i) refl e (λ f. found_means n list k (suc i) p f)
  where
    Means : ℕ → ℕ → Type 0
    Means m h = (m ≤ p) × (p < m + h) × (fault_at n list p ≡ true) × ((j : ℕ) → m ≤ j → j < p → fault_at n list j ≡ false)

    go : (t : Bool) → fault_at n list i ≡ t → ◌≡◌ {A = Option ℕ} (elim t [ true ↦ Some i | false ↦ first_fault n list k (suc i) ]) (Some p)
        → (first_fault n list k (suc i) ≡ Some p → Means (suc i) k) → Means i (suc k)
    go true is f later =
        let same : i ≡ p = cc in
        (omega arith, omega arith, ap (fault_at n list) (sym same) ∙ is, λ j a b. absurd (omega arith))
    go false is f later = let m = later f in let a = m.0 in let b = m.1 in (omega arith, omega arith, m.2, λ j c d. earlier j c d m (cases_eq i j))
      where
        earlier : (j : ℕ) → i ≤ j → j < p → Means (suc i) k → (i ≡ j) ⊎ (i ≡ j → ⊥) → fault_at n list j ≡ false
        earlier j c d m (inl e) = ap (fault_at n list) (sym e) ∙ is
        earlier j c d m (inr ne) = m.3 j (omega arith) d

pub first_means : (n : ℕ) (list : List ℕ) (p : ℕ) → first_fault n list (length list) 0 ≡ Some p → FirstFault n list p
first_means n list p e = let m = found_means n list (length list) 0 p e in record { within = omega (arith, m.1); fault = m.2; first = λ j a. m.3 j (omega arith) a }
