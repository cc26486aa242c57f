-- The loop that codes a row column by column: what it keeps, and what it comes to.
use Rattle.std.proofs.Common.{◌≡◌, ℕ, ◌+◌, ◌-◌, ◌<◌, ◌≤◌, min, true, false, leb, ◌⊎◌, List, [], ◌∷◌, ◌++◌, length, get_or, take, drop, set, replicate, Ok, Err, Result, sym, refl, ap, ◌∙◌, inl, inr, append_assoc, arith, length-set, take-append-drop}
use Rattle.std.proofs.lemmas.List.{drop_more, take_more_set, drop_all}
use Rattle.std.proofs.lemmas.List.{get_or_default}
use Rattle.std.proofs.lemmas.List.FromFn.{length-enumerate_from, get_or-enumerate_from}
use Rattle.std.proofs.lemmas.Slice.Zip.{length-zip, get_or-zip}
use Rattle.std.specs.List.{zip, enumerate_from}
use Rattle.std.proofs.lemmas.Bool.{cases_lt}
use Rattle.meanings.specs.Meaning.{Meaning}
use Rattle.book.specs.declared.refusal.Refusal.{Refusal}
use Rattle.book.specs.declared.refusal.Refusal.TheVariants.{AboveTop}
use Rattle.book.specs.declared.role.Role.{Role}
use Rattle.book.specs.declared.role.Role.TheVariants.{Yarn}
use Rattle.book.specs.Refusals.{ask}
use Rattle.book.specs.Rows.{ColumnMeanings, coding_of, within, codes}
use Rattle.book.proofs.Asking.{ask_ok, ask_no}
use Rattle.book.proofs.Kept.{length_codes}
use Rattle.book.proofs.Padding.{filled_next}
use Rattle.release.specs.Coder.{one_coded, row_coded}

-- what an answer of one column tells
told_code : (m : Meaning) (x c : ℕ) → Ok c ≡ one_coded m x → (leb x m.top ≡ true) × (c ≡ m.rule x)
told_code m x c e = let p = ask_ok (leb x m.top) _ _ c (sym e) in (p.0, let f = p.1 in cc)

told_above : (m : Meaning) (x : ℕ) (r : Refusal) → Err r ≡ one_coded m x → (leb x m.top ≡ false) × (r ≡ AboveTop)
told_above m x r e = ask_no (leb x m.top) _ _ r (sym e)

-- The columns that have a number.
abbrev columns : List Role → List ℕ → ℕ
columns rs xs = min (length rs) (length xs)

-- The turn after k columns has the next one's place, role and number.
abbrev At : List Role → List ℕ → (k j : ℕ) (role : Role) (x : ℕ) → Type 0
At rs xs k j role x = (k < columns rs xs) × (j ≡ k) × (role ≡ get_or rs k Yarn) × (x ≡ get_or xs k 0)

pub column_at : (rs : List Role) (xs : List ℕ) (k : ℕ) (p : ℕ × (Role × ℕ)) → (k < length (enumerate_from 0 (zip rs xs))) × (p ≡ get_or (enumerate_from 0 (zip rs xs)) k p)
    → At rs xs k p.0 p.1.0 p.1.1
column_at rs xs k p h =
    let n = length-enumerate_from 0 (zip rs xs) in
    let z = length-zip rs xs in
    let lt : k < columns rs xs = omega (arith, h.0) in
    let e = h.1 ∙ get_or-enumerate_from 0 (zip rs xs) k p (omega (arith, h.0)) in
    let at = ap (λ q. q.1) e ∙ get_or-zip rs xs k p.1 (omega arith) (omega arith) in
    let first = ap (λ q. q.0) e in (
      lt,
      omega (arith, first),
      ap (λ q. q.0) at ∙ get_or_default rs k p.1.0 Yarn (omega arith),
      ap (λ q. q.1) at ∙ get_or_default xs k p.1.1 0 (omega arith),
    )

module _ (m : ColumnMeanings) where
  -- what is to come where the codes so far are cs
  abbrev to_come : List Role → List ℕ → List ℕ → ℕ → Result (List ℕ) Refusal
  to_come rs xs cs n = ask (within m rs xs) AboveTop (Ok (cs ++ (codes m rs xs ++ replicate (8 - n) 0)))

  to_come_code : (r : Role) (x : ℕ) (rs : List Role) (xs cs : List ℕ) (n : ℕ) → leb x (coding_of m r).top ≡ true
      → to_come (r ∷ rs) (x ∷ xs) cs n ≡ to_come rs xs (cs ++ (coding_of m r).rule x ∷ []) n
  to_come_code r x rs xs cs n in_top =
      rw in_top (ap (λ zs. ask (within m rs xs) AboveTop (Ok zs)) (sym (append_assoc cs ((coding_of m r).rule x ∷ []) (codes m rs xs ++ replicate (8 - n) 0))))

  to_come_above : (r : Role) (x : ℕ) (rs : List Role) (xs cs : List ℕ) (n : ℕ) → leb x (coding_of m r).top ≡ false
      → to_come (r ∷ rs) (x ∷ xs) cs n ≡ Err AboveTop
  to_come_above r x rs xs cs n out = rw out

  -- nothing is to come where no column is left, or no number
  none_left : (rs : List Role) (xs cs : List ℕ) (n : ℕ) → (rs ≡ []) ⊎ (xs ≡ []) → to_come rs xs cs n ≡ Ok (cs ++ replicate (8 - n) 0)
  none_left [] xs cs n e = refl
  none_left (r ∷ rs) [] cs n e = refl
  none_left (r ∷ rs) (x ∷ xs) cs n (inl e) = let z : ◌≡◌ {A = ℕ} 0 1 = cc in absurd (omega arith)
  none_left (r ∷ rs) (x ∷ xs) cs n (inr e) = let z : ◌≡◌ {A = ℕ} 0 1 = cc in absurd (omega arith)

  module _ (rs : List Role) (xs : List ℕ) where
    -- After j columns the record has their codes and then zeros, and what is to come is the row's answer.
    pub record Coded (j : ℕ) (cs : List ℕ) : Type 0 where
      pub eight : length cs ≡ 8
      pub zeros : drop j cs ≡ replicate (8 - j) 0
      pub comes : row_coded m rs xs ≡ to_come (drop j rs) (drop j xs) (take j cs) (columns rs xs)

    -- one column taken off what is to come
    next : (j : ℕ) (cs : List ℕ) → j < (columns rs xs) → to_come (drop j rs) (drop j xs) cs (columns rs xs) ≡ to_come (get_or rs j Yarn ∷ drop (j + 1) rs) (get_or xs j 0 ∷ drop (j + 1) xs) cs (columns rs xs)
    next j cs lt =
        ap (λ zs. to_come zs (drop j xs) cs (columns rs xs)) (drop_more rs j Yarn (omega arith))
        ∙ ap (λ zs. to_come (get_or rs j Yarn ∷ drop (j + 1) rs) zs cs (columns rs xs)) (drop_more xs j 0 (omega arith))

    pub coded_none : Coded 0 (replicate 8 0)
    coded_none = record { eight = refl; zeros = refl; comes = ap (λ n. ask (within m rs xs) AboveTop (Ok (codes m rs xs ++ replicate (8 - n) 0))) (length_codes m rs xs) }

    -- what that column's answer says of the row
    answer_at : (k j : ℕ) (role : Role) (x : ℕ) (a : Result ℕ Refusal) → At rs xs k j role x → a ≡ one_coded (coding_of m role) x → a ≡ one_coded (coding_of m (get_or rs k Yarn)) (get_or xs k 0)
    answer_at k j role x a at e = e ∙ ap (λ r. one_coded (coding_of m r) x) at.2 ∙ ap (one_coded (coding_of m (get_or rs k Yarn))) at.3

    pub coded_one : (k j : ℕ) (role : Role) (x c : ℕ) (cs : List ℕ) (k' : ℕ) → At rs xs k j role x → length rs ≤ 8 → k' ≡ k + 1 → Coded k cs → Ok c ≡ one_coded (coding_of m role) x → Coded k' (set cs j c)
    coded_one k j role x c cs k' at few more coded e =
        let coding = coding_of m (get_or rs k Yarn) in
        let tell = told_code coding (get_or xs k 0) c (answer_at k j role x (Ok c) at e) in
        let room : k < length cs = omega (arith, at.0, coded.eight) in
        let front : take k cs ++ coding.rule (get_or xs k 0) ∷ [] ≡ take (k + 1) (set cs k c) = ap (λ v. take k cs ++ v ∷ []) (sym tell.1) ∙ sym (take_more_set cs k c room) in
        rw (more, at.1) (record {
          eight = length-set cs k c ∙ coded.eight;
          zeros = filled_next 0 cs k c coded.zeros;
          comes = coded.comes ∙ next k (take k cs) at.0 ∙ to_come_code (get_or rs k Yarn) (get_or xs k 0) (drop (k + 1) rs) (drop (k + 1) xs) (take k cs) (columns rs xs) tell.0 ∙ ap (λ zs. to_come (drop (k + 1) rs) (drop (k + 1) xs) zs (columns rs xs)) front;
        })

    pub coded_above : (k j : ℕ) (role : Role) (x : ℕ) (r : Refusal) (cs : List ℕ) → At rs xs k j role x → Coded k cs → Err r ≡ one_coded (coding_of m role) x → Err r ≡ row_coded m rs xs
    coded_above k j role x r cs at coded e =
        let tell = told_above (coding_of m (get_or rs k Yarn)) (get_or xs k 0) r (answer_at k j role x (Err r) at e) in
        ap Err tell.1 ∙ sym (coded.comes ∙ next k (take k cs) at.0 ∙ to_come_above (get_or rs k Yarn) (get_or xs k 0) (drop (k + 1) rs) (drop (k + 1) xs) (take k cs) (columns rs xs) tell.0)

    pub coded_all : (j : ℕ) (cs : List ℕ) → j ≡ (columns rs xs) → Coded j cs → Ok cs ≡ row_coded m rs xs
    coded_all j cs same k =
        let whole : cs ≡ take j cs ++ replicate (8 - j) 0 = sym (take-append-drop j cs) ∙ ap (λ zs. take j cs ++ zs) k.zeros in
        ap Ok (whole ∙ ap (λ n. take j cs ++ replicate (8 - n) 0) same) ∙ sym (k.comes ∙ none_left (drop j rs) (drop j xs) (take j cs) (columns rs xs) (ended (cases_lt j (length rs))))
      where
        ended : (j < length rs) ⊎ (length rs ≤ j) → (drop j rs ≡ []) ⊎ (drop j xs ≡ [])
        ended (inl more) = inr (drop_all j xs (omega arith))
        ended (inr done) = inl (drop_all j rs done)
