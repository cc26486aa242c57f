-- The pigeonhole: n + 1 numbers below n cannot all differ.
use Rattle.std.proofs.Common.{◌≡◌, ℕ, zero, suc, ◌<◌, ◌≤◌, true, false, eqb, ◌⊎◌, sym, ◌∙◌, inl, inr, arith}
use Rattle.std.proofs.lemmas.Bool.{cases_eq, eq-eqb, ne_eqb}

-- two places up to n at which g agrees
pub record Meet (g : ℕ → ℕ) (n : ℕ) : Type 0 where
  pub low : ℕ
  pub high : ℕ
  pub apart : low < high
  pub far : high ≤ n
  pub agree : g low ≡ g high

-- a place below n at which g is v, or none
find : (g : ℕ → ℕ) (v n : ℕ) → ((i : ℕ) × (i < n) × (g i ≡ v)) ⊎ ((i : ℕ) → i < n → g i ≡ v → ⊥)
find g v zero = inr (λ i h e. omega arith)
find g v (suc n) = step (cases_eq (g n) v) (find g v n)
  where
    step : (g n ≡ v) ⊎ (g n ≡ v → ⊥) → ((i : ℕ) × (i < n) × (g i ≡ v)) ⊎ ((i : ℕ) → i < n → g i ≡ v → ⊥)
        → ((i : ℕ) × (i < suc n) × (g i ≡ v)) ⊎ ((i : ℕ) → i < suc n → g i ≡ v → ⊥)
    step (inl e) _ = inl (n, omega arith, e)
    step (inr ne) (inl f) = inl (f.0, omega arith, f.2)
    step (inr ne) (inr none) = inr (λ i h e. at i h e (cases_eq i n))
      where
        at : (i : ℕ) → i < suc n → g i ≡ v → (i ≡ n) ⊎ (i ≡ n → ⊥) → ⊥
        at i h e (inl same) = ne (rw same at e)
        at i h e (inr other) = none i (omega arith) e

-- g with the value n replaced by v
swapped : (ℕ → ℕ) → ℕ → ℕ → ℕ → ℕ
swapped g n v i = elim (eqb (g i) n) [ true ↦ v | false ↦ g i ]

swapped_cases : (g : ℕ → ℕ) (n v i : ℕ) → ((g i ≡ n) × (swapped g n v i ≡ v)) ⊎ ((g i ≡ n → ⊥) × (swapped g n v i ≡ g i))
unfolding swapped
swapped_cases g n v i = go (cases_eq (g i) n)
  where
    go : (g i ≡ n) ⊎ (g i ≡ n → ⊥) → ((g i ≡ n) × (swapped g n v i ≡ v)) ⊎ ((g i ≡ n → ⊥) × (swapped g n v i ≡ g i))
    go (inl e) = inl (e, rw (swapped, eq-eqb (g i) n e))
    go (inr ne) = inr (ne, rw (swapped, ne_eqb (g i) n ne))

pub pigeonhole : (n : ℕ) (g : ℕ → ℕ) → ((i : ℕ) → i ≤ n → g i < n) → Meet g n
pigeonhole zero g h = absurd (omega (arith, h 0 (omega arith)))
pigeonhole (suc n) g h = split (find g (g (suc n)) (suc n)) (λ below. pigeonhole n (swapped g n (g (suc n))) below)
  where
    lower : ((i : ℕ) → i < suc n → g i ≡ g (suc n) → ⊥) → (i : ℕ) → i ≤ n → swapped g n (g (suc n)) i < n
    lower none i le = go (swapped_cases g n (g (suc n)) i)
      where
        go : ((g i ≡ n) × (swapped g n (g (suc n)) i ≡ g (suc n))) ⊎ ((g i ≡ n → ⊥) × (swapped g n (g (suc n)) i ≡ g i)) → swapped g n (g (suc n)) i < n
        go (inl c) = rw c.1 (let ne : g (suc n) ≡ n → ⊥ = λ e. none i (omega arith) (c.0 ∙ sym e) in omega (arith, h (suc n) (omega arith)))
        go (inr c) = rw c.1 (let ne = c.0 in omega (arith, h i (omega arith)))

    lift : ((i : ℕ) → i < suc n → g i ≡ g (suc n) → ⊥) → Meet (swapped g n (g (suc n))) n → Meet g (suc n)
    lift none m =
        record {
          low = m.low;
          high = m.high;
          apart = m.apart;
          far = omega (arith, m.far);
          agree = go (swapped_cases g n (g (suc n)) m.low) (swapped_cases g n (g (suc n)) m.high);
        }
      where
        go : ((g m.low ≡ n) × (swapped g n (g (suc n)) m.low ≡ g (suc n))) ⊎ ((g m.low ≡ n → ⊥) × (swapped g n (g (suc n)) m.low ≡ g m.low))
            → ((g m.high ≡ n) × (swapped g n (g (suc n)) m.high ≡ g (suc n))) ⊎ ((g m.high ≡ n → ⊥) × (swapped g n (g (suc n)) m.high ≡ g m.high))
            → g m.low ≡ g m.high
        go (inl a) (inl b) = a.0 ∙ sym b.0
        go (inl a) (inr b) = absurd (none m.high (omega (arith, m.far)) (sym b.1 ∙ sym m.agree ∙ a.1))
        go (inr a) (inl b) = absurd (none m.low (omega (arith, m.far, m.apart)) (sym a.1 ∙ m.agree ∙ b.1))
        go (inr a) (inr b) = sym a.1 ∙ m.agree ∙ b.1

    split : ((i : ℕ) × (i < suc n) × (g i ≡ g (suc n))) ⊎ ((i : ℕ) → i < suc n → g i ≡ g (suc n) → ⊥)
        → (((i : ℕ) → i ≤ n → swapped g n (g (suc n)) i < n) → Meet (swapped g n (g (suc n))) n) → Meet g (suc n)
    split (inl f) rest = record { low = f.0; high = suc n; apart = f.1; far = omega arith; agree = f.2 }
    split (inr none) rest = lift none (rest (lower none))
