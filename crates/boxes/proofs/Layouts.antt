-- The table of boxes is what the search gives, by one computed test; the boxes of a width add up to it and each has a field.
use Rattle.std.proofs.Common.{◌≡◌, ℕ, zero, suc, ◌+◌, ◌-◌, ◌*◌, ◌<◌, ◌≤◌, Bool, true, ◌&&◌, ◌||◌, eqb, ltb, leb, ◌⊎◌, List, [], ◌∷◌, length, get_or, refl, ap, ◌∙◌, subst, inl, inr, arith}
use Rattle.std.proofs.lemmas.Bool.{and_parts, or_cases, eqb-true, ltb-true, leb-true}
use Rattle.field.specs.Widths.{low_part}
use Rattle.boxes.specs.declared.shape.Shape.{Shape}
use Rattle.boxes.specs.Layouts.{permitted, candidate, better, choose, best, searched, layout, Cut}
use Rattle.boxes.proofs.Table.{table}

abbrev same : Shape → Shape → Bool
same a b = eqb a.wide b.wide && (eqb a.last b.last && eqb a.count b.count)

abbrev cuts : ℕ → Shape → Bool
cuts n s = leb 1 s.count && (eqb (s.last + (s.count - 1) * s.wide) n && (ltb 0 (low_part s.last) && (leb s.count 1 || ltb 0 (low_part s.wide))))

-- a table is right from width n on
right : ℕ → List Shape → Bool
right n [] = true
right n (s ∷ ss) = (same s (layout n) && cuts n s) && right (suc n) ss

all_right : right 24 table ≡ true
unfolding right layout searched best choose better candidate permitted
all_right = refl

same_is : (a b : Shape) → same a b ≡ true → a ≡ b
same_is a b e =
    let x = and_parts (eqb a.wide b.wide) (eqb a.last b.last && eqb a.count b.count) e in
    let y = and_parts (eqb a.last b.last) (eqb a.count b.count) x.1 in
    ap (λ z. record { wide = z; last = a.last; count = a.count }) (eqb-true a.wide b.wide x.0)
    ∙ ap (λ z. record { wide = b.wide; last = z; count = a.count }) (eqb-true a.last b.last y.0)
    ∙ ap (λ z. record { wide = b.wide; last = b.last; count = z }) (eqb-true a.count b.count y.1)

cuts_is : (n : ℕ) (s : Shape) → cuts n s ≡ true → Cut n s
cuts_is n s e =
    let a = and_parts (leb 1 s.count) _ e in
    let b = and_parts (eqb (s.last + (s.count - 1) * s.wide) n) _ a.1 in
    let c = and_parts (ltb 0 (low_part s.last)) _ b.1 in
    record {
      some = leb-true 1 s.count a.0;
      whole = eqb-true (s.last + (s.count - 1) * s.wide) n b.0;
      last = ltb-true 0 (low_part s.last) c.0;
      wide = λ more. go more (or_cases (leb s.count 1) (ltb 0 (low_part s.wide)) c.1);
    }
  where
    go : 1 < s.count → (leb s.count 1 ≡ true) ⊎ (ltb 0 (low_part s.wide) ≡ true) → 0 < low_part s.wide
    go more (inl e) = absurd (omega (arith, leb-true s.count 1 e))
    go more (inr e) = ltb-true 0 (low_part s.wide) e

at_place : (n : ℕ) (ss : List Shape) → right n ss ≡ true → (i : ℕ) (d : Shape) → i < length ss
    → (get_or ss i d ≡ layout (n + i)) × Cut (n + i) (get_or ss i d)
unfolding right
at_place n [] t i d h = absurd (omega arith)
at_place n (s ∷ ss) t zero d h =
    let here = (and_parts (same s (layout n) && cuts n s) (right (suc n) ss) t).0 in
    let e : n + 0 ≡ n = omega arith in
    let both = and_parts (same s (layout n)) (cuts n s) here in
    rw e (same_is s (layout n) both.0, cuts_is n s both.1)
at_place n (s ∷ ss) t (suc i) d h =
    let later = (and_parts (same s (layout n) && cuts n s) (right (suc n) ss) t).1 in
    let e : n + suc i ≡ suc n + i = omega arith in
    rw e (at_place (suc n) ss later i d (omega arith))

pub shape_right : (n : ℕ) (d : Shape) → 24 ≤ n → n ≤ 64 → (get_or table (n - 24) d ≡ layout n) × Cut n (get_or table (n - 24) d)
shape_right n d a b =
    let e : 24 + (n - 24) ≡ n = omega arith in
    rw e at (at_place 24 table all_right (n - 24) d (omega arith))

pub layout_cut : (n : ℕ) → 24 ≤ n → n ≤ 64 → Cut n (layout n)
layout_cut n a b = let r = shape_right n (layout n) a b in subst (Cut n) r.0 r.1
