-- What calls and their answers tell of the book's rows.
use Rattle.std.proofs.Common.{◌≡◌, ℕ, ◌+◌, ◌-◌, ◌<◌, Bool, true, false, not, ◌&&◌, ◌||◌, eqb, ltb, leb, List, [], ◌∷◌, ◌++◌, map, length, get_or, set, Ok, Err, Result, sym, refl, ap, ◌∙◌, arith}
use Rattle.std.proofs.lemmas.List.{get_or_append_left, get_or-set_other, get_or-set_same, map_push, length_push, length-set, append-nil, append_assoc}
use Rattle.std.proofs.Math.Seq.{map-set_same, get_or-append_seam}
use Rattle.std.proofs.Math.Bool.{and-true, and-false}
use Rattle.std.proofs.lemmas.Bool.{ltb-true, leb-true, leb-false, lt-ltb, le-leb, lt-leb, eqb-true, eqb-false, and_from, and_parts, and_right}
use Rattle.book.specs.declared.call.Answer.{Answer}
use Rattle.book.specs.declared.call.Answer.TheVariants.{Put, Withdrawn}
use Rattle.book.specs.declared.refusal.Refusal.{Refusal}
use Rattle.book.specs.Asked.{Asked, put, withdraw, show, turn_back, tally}
use Rattle.book.specs.Rows.{Setup, within}
use Rattle.book.specs.Book.{BookRow, no_row, row_at, row_stands, withdrawn, book_put, book_withdraw}
use Rattle.book.specs.Runs.{told, book_answer, book_after}
use Rattle.book.specs.Accepted.{accepted_at, accepted, puts_it, withdraws_it, never_withdrawn, put_and_stands, RowsTold}
use Rattle.book.proofs.Asking.{ask_ok}
use Rattle.book.proofs.Kept.{and_same, row_stands_parts}

-- the numbers of a book's rows
abbrev numbers_of : List BookRow → List (List ℕ)
numbers_of b = map (λ r. r.numbers) b

-- a row put by the call, or standing before it and not withdrawn by it, and so on after it
two_steps : (q p s w n : Bool) → (q || ((p || (s && not w)) && n)) ≡ (((p && n) || q) || (s && (not w && n)))
two_steps true true s w true = refl
two_steps true true s w false = refl
two_steps true false s w n = refl
two_steps false true s w true = refl
two_steps false true true true false = refl
two_steps false true true false false = refl
two_steps false true false w false = refl
two_steps false false true w n = refl
two_steps false false false w n = refl

-- a call that puts no row and withdraws none
standing_kept : (t : Bool) → t ≡ (false || (t && not false))
standing_kept t = sym (and-true t)

-- a row that is not the one after the last is within the book exactly when it is within the book with one row more
within_more : (i n m : ℕ) → m ≡ n + 1 → eqb m i ≡ false → leb i m ≡ leb i n
within_more i n m e h = go (leb i n) refl
  where
    go : (t : Bool) → leb i n ≡ t → leb i m ≡ leb i n
    go true g = let l = leb-true i n g in le-leb i m (omega arith) ∙ sym g
    go false g = let l = leb-false i n g in let d = eqb-false m i h in lt-leb i m (omega (arith, d)) ∙ sym g

-- with one row more, a row stands that is the new one or stood before
stands_push : (b : List BookRow) (xs : List ℕ) (n i : ℕ) → length b + 1 ≡ n → row_stands (b ++ record { numbers = xs; standing = true } ∷ []) i ≡ (eqb n i || (row_stands b i && not false))
stands_push b xs n i e = go (eqb n i) refl
  where
    row : BookRow
    row = record { numbers = xs; standing = true }

    more : List BookRow
    more = b ++ row ∷ []

    size : length more ≡ n
    size = length_push b row ∙ e

    go : (t : Bool) → eqb n i ≡ t → row_stands more i ≡ (t || (row_stands b i && not false))
    go true h =
        let at = eqb-true n i h in
        let place : i - 1 ≡ length b = omega arith in
        and_from _ _ (lt-ltb 0 i (omega arith)) (and_from _ _ (le-leb i (length more) (omega (arith, size)))
        (ap (λ k. (get_or more k no_row).standing) place ∙ ap (λ r. r.standing) (get_or-append_seam b row [] no_row)))
    go false h =
        and_same (ltb 0 i) _ _ (λ low.
        ap (λ k. leb i k && (row_at more i).standing) size
        ∙ ap (λ t. t && (row_at more i).standing) (within_more i (length b) n (sym e) h)
        ∙ and_same (leb i (length b)) _ _ (λ high.
        let p = ltb-true 0 i low in
        let l = leb-true i (length b) high in
        ap (λ r. r.standing) (get_or_append_left b (row ∷ []) no_row (i - 1) (omega arith))))
        ∙ standing_kept (row_stands b i)

-- with a standing row withdrawn, a row stands that stood before and is not that row
stands_less : (b : List BookRow) (j i : ℕ) → row_stands b j ≡ true → row_stands (set b (j - 1) (withdrawn (row_at b j))) i ≡ (row_stands b i && not (eqb j i))
stands_less b j i st = go (eqb j i) refl
  where
    row : BookRow
    row = withdrawn (row_at b j)

    less : List BookRow
    less = set b (j - 1) row

    there : j - 1 < length b
    there = (row_stands_parts b j st).0

    first : 0 < j
    first = ltb-true 0 j (and_parts (ltb 0 j) _ st).0

    go : (t : Bool) → eqb j i ≡ t → row_stands less i ≡ (row_stands b i && not t)
    go true h =
        let at = eqb-true j i h in
        let place : i - 1 ≡ j - 1 = omega arith in
        and_right (ltb 0 i) _ (and_right (leb i (length less)) _
        (ap (λ k. (get_or less k no_row).standing) place ∙ ap (λ r. r.standing) (get_or-set_same b (j - 1) row no_row there)))
        ∙ sym (and-false (row_stands b i))
    go false h =
        and_same (ltb 0 i) _ _ (λ low.
        ap (λ k. leb i k && (row_at less i).standing) (length-set b (j - 1) row)
        ∙ and_same (leb i (length b)) _ _ (λ high.
        let p = ltb-true 0 i low in
        let d = eqb-false j i h in
        ap (λ r. r.standing) (get_or-set_other b (j - 1) (i - 1) row no_row (omega (arith, d, first)))))
        ∙ sym (and-true (row_stands b i))

module _ (s : Setup) (b : List BookRow) where
  -- the rows after one call
  rows_after : (c : Asked) → numbers_of (book_after s b c) ≡ numbers_of b ++ accepted_at c (book_answer s b c)
  rows_after (put xs) = go (book_put s b xs)
    where
      go : (a : Result ℕ Refusal) → numbers_of (elim a [ Ok n ↦ b ++ record { numbers = xs; standing = true } ∷ [] | Err e ↦ b ]) ≡ numbers_of b ++ accepted_at (put xs) (told Put a)
      go (Ok n) = map_push (λ (r : BookRow). r.numbers) b (record { numbers = xs; standing = true })
      go (Err e) = sym (append-nil (numbers_of b))
  rows_after (withdraw j) = go (book_withdraw s b j)
    where
      go : (a : Result (Unit {0}) Refusal) → numbers_of (elim a [ Ok n ↦ set b (j - 1) (withdrawn (row_at b j)) | Err e ↦ b ]) ≡ numbers_of b ++ []
      go (Ok n) = map-set_same (λ (r : BookRow). r.numbers) b (j - 1) (withdrawn (row_at b j)) no_row refl ∙ sym (append-nil (numbers_of b))
      go (Err e) = sym (append-nil (numbers_of b))
  rows_after (show e) = sym (append-nil (numbers_of b))
  rows_after (turn_back e) = sym (append-nil (numbers_of b))
  rows_after tally = sym (append-nil (numbers_of b))

  -- which rows stand after one call
  standing_after : (c : Asked) (i : ℕ) → row_stands (book_after s b c) i ≡ (puts_it i c (book_answer s b c) || (row_stands b i && not (withdraws_it i c (book_answer s b c))))
  standing_after (put xs) i = go (book_put s b xs) refl
    where
      go : (a : Result ℕ Refusal) → book_put s b xs ≡ a
          → row_stands (elim a [ Ok n ↦ b ++ record { numbers = xs; standing = true } ∷ [] | Err e ↦ b ]) i ≡ (puts_it i (put xs) (told Put a) || (row_stands b i && not false))
      go (Ok n) h =
          let p = ask_ok (eqb (length xs) (length s.roles)) _ _ n h in
          let q = ask_ok (ltb (length b) s.records) _ _ n p.1 in
          let r = ask_ok (within s.codings s.roles xs) _ _ n q.1 in
          stands_push b xs n i (cc r.1)
      go (Err e) h = standing_kept (row_stands b i)
  standing_after (withdraw j) i = go (book_withdraw s b j) refl
    where
      go : (a : Result (Unit {0}) Refusal) → book_withdraw s b j ≡ a
          → row_stands (elim a [ Ok n ↦ set b (j - 1) (withdrawn (row_at b j)) | Err e ↦ b ]) i ≡ (false || (row_stands b i && not (withdraws_it i (withdraw j) (told (λ _. Withdrawn) a))))
      go (Ok n) h = stands_less b j i (ask_ok (row_stands b j) _ _ n h).0
      go (Err e) h = standing_kept (row_stands b i)
  standing_after (show e) i = standing_kept (row_stands b i)
  standing_after (turn_back e) i = standing_kept (row_stands b i)
  standing_after tally i = standing_kept (row_stands b i)

-- what no call tells
pub told_none : (b : List BookRow) → RowsTold [] [] b b
told_none b = record { rows = sym (append-nil (numbers_of b)); standing = λ i. standing_kept (row_stands b i) }

-- what a call tells before others
pub told_more : (s : Setup) (b b' : List BookRow) (c : Asked) (cs : List Asked) (r : Result Answer Refusal) (rs : List (Result Answer Refusal)) → r ≡ book_answer s b c
    → RowsTold cs rs (book_after s b c) b' → RowsTold (c ∷ cs) (r ∷ rs) b b'
told_more s b b' c cs r rs same u = record {
  rows = u.rows
      ∙ ap (λ zs. zs ++ accepted cs rs) (rows_after s b c)
      ∙ append_assoc (numbers_of b) (accepted_at c (book_answer s b c)) (accepted cs rs)
      ∙ ap (λ a. numbers_of b ++ (accepted_at c a ++ accepted cs rs)) (sym same);
  standing = λ i.
      u.standing i
      ∙ ap (λ t. put_and_stands i cs rs || (t && never_withdrawn i cs rs)) (standing_after s b c i)
      ∙ ap (λ a. put_and_stands i cs rs || ((puts_it i c a || (row_stands b i && not (withdraws_it i c a))) && never_withdrawn i cs rs)) (sym same)
      ∙ two_steps (put_and_stands i cs rs) (puts_it i c r) (row_stands b i) (withdraws_it i c r) (never_withdrawn i cs rs);
}
