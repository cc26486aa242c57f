-- The code's five steps put zeros between the bits of a number: they keep sums, so 32 powers of 2 settle it. What they make of a
-- leaves the square of a.
use Rattle.std.proofs.Common.{◌≡◌, ℕ, zero, suc, ◌+◌, ◌*◌, ◌/◌, ◌%◌, ◌^◌, ◌<◌, ◌≤◌, Bool, true, ◌&&◌, eqb, ◌⊎◌, sym, refl, ap, ◌∙◌, inl, inr, arith}
use lib.Bits.{bit_xor, bit_and, and_zero_r, and_shr, and_mod, xor_shr, xor_mod, xor_block, xor_lt}
use Rattle.std.proofs.lemmas.Nat.{pow_pos, pow_below}
use Rattle.std.proofs.lemmas.Bool.{and_parts, eqb-true, cases_eq}
use Rattle.field.specs.Polynomials.{along}
use Rattle.field.specs.Fields.{twice, square}
use Rattle.field.specs.Code.{reduced, quadrupled, spread, spaced, spaced_out}
use Rattle.field.proofs.Sums.{crosswise, agree, each}
use Rattle.std.proofs.Math.Nat.{pow-succ'}
use Rattle.field.proofs.Along.{up, up_join, along_adds_r, along_none, along_power}
use Rattle.field.proofs.Products.{up_one}
use Rattle.field.proofs.Powers.{square_adds}

by_digits : (a b : ℕ) → a / 2 ≡ b / 2 → a % 2 ≡ b % 2 → a ≡ b
by_digits a b h d = omega arith

digit : (x y z : ℕ) → x < 2 → y < 2 → z < 2 → bit_and (bit_xor x y) z ≡ bit_xor (bit_and x z) (bit_and y z)
digit zero y z hx hy hz = refl
digit (suc zero) zero zero hx hy hz = refl
digit (suc zero) zero (suc zero) hx hy hz = refl
digit (suc zero) (suc zero) zero hx hy hz = refl
digit (suc zero) (suc zero) (suc zero) hx hy hz = refl
digit (suc zero) zero (suc (suc z)) hx hy hz = absurd (omega arith)
digit (suc zero) (suc zero) (suc (suc z)) hx hy hz = absurd (omega arith)
digit (suc zero) (suc (suc y)) z hx hy hz = absurd (omega arith)
digit (suc (suc x)) y z hx hy hz = absurd (omega arith)

-- a mask keeps sums
masked_adds : (k keep a b : ℕ) → keep < 2 ^ k → bit_and (bit_xor a b) keep ≡ bit_xor (bit_and a keep) (bit_and b keep)
masked_adds zero keep a b h =
    let none : keep ≡ 0 = omega arith in
    ap (bit_and (bit_xor a b)) none ∙ and_zero_r (bit_xor a b) ∙ sym (ap (λ z. bit_xor (bit_and a z) (bit_and b z)) none ∙ ap (λ z. bit_xor z (bit_and b 0)) (and_zero_r a) ∙ and_zero_r b)
masked_adds (suc k) keep a b h =
    by_digits (bit_and (bit_xor a b) keep) (bit_xor (bit_and a keep) (bit_and b keep))
    (and_shr (bit_xor a b) keep 1 ∙ ap (λ z. bit_and z (keep / 2)) (xor_shr a b 1) ∙ masked_adds k (keep / 2) (a / 2) (b / 2) (omega (arith, pow-succ' 2 k))
    ∙ sym (xor_shr (bit_and a keep) (bit_and b keep) 1 ∙ ap (λ z. bit_xor z (bit_and b keep / 2)) (and_shr a keep 1) ∙ ap (bit_xor (bit_and (a / 2) (keep / 2))) (and_shr b keep 1)))
    (and_mod (bit_xor a b) keep 1 ∙ ap (λ z. bit_and z (keep % 2)) (xor_mod a b 1) ∙ digit (a % 2) (b % 2) (keep % 2) (omega arith) (omega arith) (omega arith)
    ∙ sym (xor_mod (bit_and a keep) (bit_and b keep) 1 ∙ ap (λ z. bit_xor z (bit_and b keep % 2)) (and_mod a keep 1) ∙ ap (bit_xor (bit_and (a % 2) (keep % 2))) (and_mod b keep 1)))

moved_adds : (s a b : ℕ) → bit_xor a b * 2 ^ s ≡ bit_xor (a * 2 ^ s) (b * 2 ^ s)
moved_adds s a b =
    let whole = xor_block s a b 0 0 (pow_pos s) (pow_pos s) in
    let e : a * 2 ^ s + 0 ≡ a * 2 ^ s = omega arith in
    let f : b * 2 ^ s + 0 ≡ b * 2 ^ s = omega arith in
    let g : bit_xor a b * 2 ^ s + 0 ≡ bit_xor a b * 2 ^ s = omega arith in
    sym g ∙ sym whole ∙ ap (λ z. bit_xor z (b * 2 ^ s + 0)) e ∙ ap (bit_xor (a * 2 ^ s)) f

abbrev AddsAll : (ℕ → ℕ) → Type 0
AddsAll f = (a b : ℕ) → f (bit_xor a b) ≡ bit_xor (f a) (f b)

after : (f g : ℕ → ℕ) → AddsAll f → AddsAll g → AddsAll (λ a. f (g a))
after f g addf addg a b = ap f (addg a b) ∙ addf (g a) (g b)

spaced_adds : (by keep : ℕ) → keep < 2 ^ 64 → AddsAll (spaced by keep)
spaced_adds by keep h a b =
    ap (λ z. bit_and (bit_xor (bit_xor a b) (z % 2 ^ 64)) keep) (moved_adds by a b)
    ∙ ap (λ z. bit_and (bit_xor (bit_xor a b) z) keep) (xor_mod (a * 2 ^ by) (b * 2 ^ by) 64)
    ∙ ap (λ z. bit_and z keep) (crosswise a b (a * 2 ^ by % 2 ^ 64) (b * 2 ^ by % 2 ^ 64))
    ∙ masked_adds 64 keep (bit_xor a (a * 2 ^ by % 2 ^ 64)) (bit_xor b (b * 2 ^ by % 2 ^ 64)) h

spaced_out_adds : AddsAll spaced_out
spaced_out_adds =
    after (spaced 1 6148914691236517205) (λ a. spaced 2 3689348814741910323 (spaced 4 1085102592571150095 (spaced 8 71777214294589695 (spaced 16 281470681808895 a))))
    (spaced_adds 1 6148914691236517205 (omega arith))
    (after (spaced 2 3689348814741910323) (λ a. spaced 4 1085102592571150095 (spaced 8 71777214294589695 (spaced 16 281470681808895 a)))
    (spaced_adds 2 3689348814741910323 (omega arith))
    (after (spaced 4 1085102592571150095) (λ a. spaced 8 71777214294589695 (spaced 16 281470681808895 a))
    (spaced_adds 4 1085102592571150095 (omega arith))
    (after (spaced 8 71777214294589695) (spaced 16 281470681808895)
    (spaced_adds 8 71777214294589695 (omega arith))
    (spaced_adds 16 281470681808895 (omega arith)))))

-- the two agree on the first k powers of 2
same_powers : ℕ → Bool
same_powers zero = true
same_powers (suc k) = eqb (spaced_out (2 ^ k)) (spread (2 ^ k)) && same_powers k

same_at : (k : ℕ) → same_powers k ≡ true → (i : ℕ) → i < k → spaced_out (2 ^ i) ≡ spread (2 ^ i)
unfolding same_powers
same_at zero g i h = absurd (omega arith)
same_at (suc k) g i h = go (and_parts (eqb (spaced_out (2 ^ k)) (spread (2 ^ k))) (same_powers k) g) (cases_eq i k) (same_at k)
  where
    go : (eqb (spaced_out (2 ^ k)) (spread (2 ^ k)) ≡ true) × (same_powers k ≡ true) → (i ≡ k) ⊎ (i ≡ k → ⊥)
        → (same_powers k ≡ true → (i : ℕ) → i < k → spaced_out (2 ^ i) ≡ spread (2 ^ i)) → spaced_out (2 ^ i) ≡ spread (2 ^ i)
    go p (inl e) lower = ap (λ z. spaced_out (2 ^ z)) e ∙ eqb-true (spaced_out (2 ^ k)) (spread (2 ^ k)) p.0 ∙ ap (λ z. spread (2 ^ z)) (sym e)
    go p (inr ne) lower = lower p.1 i (omega arith)

all_same : same_powers 32 ≡ true
unfolding same_powers along
all_same = refl

pub steps_spread : (a : ℕ) → a < 2 ^ 32 → spaced_out a ≡ spread a
steps_spread = agree 32 spaced_out spread (λ a b _ _. spaced_out_adds a b) (λ a b _ _. along_adds_r quadrupled 32 1 a b) (same_at 32 all_same)

up_quadrupled : (i j : ℕ) → up quadrupled i (2 ^ j) ≡ 2 ^ (j + (i + i))
up_quadrupled zero j = let e : j ≡ j + (0 + 0) = omega arith in ap (λ z. 2 ^ z) e
up_quadrupled (suc i) j =
    let e : suc (suc j) + (i + i) ≡ j + (suc i + suc i) = omega arith in
    let f : 4 * 2 ^ j ≡ 2 ^ suc (suc j) = omega (arith, pow-succ' 2 j, pow-succ' 2 (suc j)) in
    ap (up quadrupled i) f ∙ up_quadrupled i (suc (suc j)) ∙ ap (λ z. 2 ^ z) e

module _ (m low : ℕ) (small : low < 2 ^ m) (wide : 0 < m) (few : m ≤ 32) where
  power : (i : ℕ) → i < m → spread (2 ^ i) ≡ 2 ^ (i + i)
  power i h =
      let e : 0 + (i + i) ≡ i + i = omega arith in
      along_power quadrupled 32 i 1 (omega arith) ∙ up_quadrupled i 0 ∙ ap (λ z. 2 ^ z) e

  pub spread_lt : (a : ℕ) → a < 2 ^ m → spread a < 2 ^ (m + m)
  spread_lt a h =
      each (λ z. spread z < 2 ^ (m + m)) m (rw (along_none quadrupled 32 1) (pow_pos (m + m)))
      (λ a b ha hb sa sb. rw (along_adds_r quadrupled 32 1 a b) (xor_lt (m + m) (spread a) (spread b) sa sb))
      (λ i hi. rw (power i hi) (pow_below (i + i) (m + m) (omega arith)))
      m (omega arith) a h

  pub spread_reduces : (a : ℕ) → a < 2 ^ m → reduced m low (spread a) ≡ square m low a
  spread_reduces =
      agree m (λ a. reduced m low (spread a)) (square m low)
      (λ a b _ _. ap (reduced m low) (along_adds_r quadrupled 32 1 a b) ∙ along_adds_r (twice m low) (m + m) 1 (spread a) (spread b))
      (square_adds m low small wide)
      (λ i h. ap (reduced m low) (power i h) ∙ along_power (twice m low) (m + m) (i + i) 1 (omega arith)
      ∙ sym (along_power (twice m low) m i (2 ^ i) h ∙ ap (up (twice m low) i) (sym (up_one m low small i h)) ∙ up_join (twice m low) i i 1))
