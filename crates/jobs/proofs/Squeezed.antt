-- Texts without their spaces, a byte at a time.
use Rattle.std.proofs.Common.{◌≡◌, ℕ, zero, suc, ◌+◌, ◌<◌, Bool, true, false, cond, ◌==◌, List, [], ◌∷◌, ◌++◌, length, take, drop, get_or, refl, ap, sym, ◌∙◌, add-zero, add-one, append_assoc, arith}
use Rattle.std.proofs.Math.Seq.{drop-cons, take-suc, drop-length}
use Rattle.std.proofs.lemmas.Bool.{eqb-true}
use Rattle.std.proofs.lemmas.List.{get_or-drop}
use Rattle.jobs.specs.Signs.{is_space, spaces_first, squeezed, code_of, Flush}
use Rattle.jobs.specs.declared.place.Sign.{Sign}
use Rattle.jobs.specs.declared.place.Sign.TheVariants.{Open, Comma, Close}

pub squeezed_nil : squeezed [] ≡ []
unfolding squeezed
squeezed_nil = refl

pub squeezed_cons : (b : ℕ) (bs : List ℕ) (v : Bool) → is_space b ≡ v → squeezed (b ∷ bs) ≡ cond v (squeezed bs) (b ∷ squeezed bs)
unfolding squeezed
squeezed_cons b bs v e = ap (λ z. cond z (squeezed bs) (b ∷ squeezed bs)) e

-- Where text goes on at i it begins with the byte at i.
pub from_next : (bs : List ℕ) (i : ℕ) → i < length bs → drop i bs ≡ get_or bs i 0 ∷ drop (i + 1) bs
from_next bs i low = rw add-one (drop-cons bs i 0 low)

-- a space at i
pub past_space : (bs : List ℕ) (i : ℕ) → i < length bs → is_space (get_or bs i 0) ≡ true → squeezed (drop (i + 1) bs) ≡ squeezed (drop i bs)
past_space bs i low e = sym (ap squeezed (from_next bs i low) ∙ squeezed_cons (get_or bs i 0) (drop (i + 1) bs) true e)

-- no space at i
pub past_other : (bs : List ℕ) (i : ℕ) → i < length bs → is_space (get_or bs i 0) ≡ false → squeezed (drop i bs) ≡ get_or bs i 0 ∷ squeezed (drop (i + 1) bs)
past_other bs i low e = ap squeezed (from_next bs i low) ∙ squeezed_cons (get_or bs i 0) (drop (i + 1) bs) false e

pub past_word : (bs : List ℕ) (i : ℕ) → i < length bs → is_space (get_or bs i 0) ≡ false → squeezed bs ≡ take i bs ++ squeezed (drop i bs)
    → squeezed bs ≡ take (i + 1) bs ++ squeezed (drop (i + 1) bs)
past_word bs i low e h =
    let next : take (i + 1) bs ≡ take i bs ++ (get_or bs i 0 ∷ []) = rw add-one (take-suc bs i 0 low) in
    h ∙ ap (λ z. take i bs ++ z) (past_other bs i low e)
    ∙ sym (append_assoc (take i bs) (get_or bs i 0 ∷ []) (squeezed (drop (i + 1) bs)))
    ∙ ap (λ z. z ++ squeezed (drop (i + 1) bs)) (sym next)

sign_stays : (s : Sign) → is_space (code_of s) ≡ false
sign_stays Open = refl
sign_stays Comma = refl
sign_stays Close = refl

pub past_sign_at : (bs : List ℕ) (i : ℕ) (s : Sign) → i < length bs → get_or (drop i bs) 0 0 ≡ code_of s → squeezed (drop i bs) ≡ code_of s ∷ squeezed (drop (i + 1) bs)
past_sign_at bs i s low e =
    let here : get_or bs i 0 ≡ code_of s = sym (rw add-zero at (get_or-drop i bs 0 0)) ∙ e in
    past_other bs i low (ap is_space here ∙ sign_stays s) ∙ ap (λ z. z ∷ squeezed (drop (i + 1) bs)) here

pub at_the_end : (bs : List ℕ) (i : ℕ) → (i == length bs) ≡ true → squeezed (drop i bs) ≡ []
at_the_end bs i e = ap (λ k. squeezed (drop k bs)) (eqb-true i (length bs) e) ∙ ap squeezed (drop-length bs) ∙ squeezed_nil

pub none_left : (bs : List ℕ) (i : ℕ) → (i == length bs) ≡ true → drop i bs ≡ []
none_left bs i e = ap (λ k. drop k bs) (eqb-true i (length bs) e) ∙ drop-length bs

pub filled : (n : ℕ) → (n == 0) ≡ false → 0 < n
filled zero e = cc
filled (suc n) e = omega arith

-- ---- the spaces that come first

spaces_nil : spaces_first [] ≡ 0
unfolding spaces_first
spaces_nil = refl

spaces_cons : (b : ℕ) (bs : List ℕ) (v : Bool) → is_space b ≡ v → spaces_first (b ∷ bs) ≡ cond v (suc (spaces_first bs)) 0
unfolding spaces_first
spaces_cons b bs v e = ap (λ z. cond z (suc (spaces_first bs)) 0) e

-- a space at i, behind spaces
pub spaces_more : (bs : List ℕ) (i : ℕ) → i < length bs → is_space (get_or bs i 0) ≡ true → spaces_first bs ≡ i + spaces_first (drop i bs)
    → spaces_first bs ≡ i + 1 + spaces_first (drop (i + 1) bs)
spaces_more bs i low e h =
    let next : spaces_first (drop i bs) ≡ suc (spaces_first (drop (i + 1) bs)) =
    ap spaces_first (from_next bs i low) ∙ spaces_cons (get_or bs i 0) (drop (i + 1) bs) true e in
    omega (arith, h, next)

-- no space at i, behind spaces
pub spaces_until : (bs : List ℕ) (i : ℕ) → i < length bs → is_space (get_or bs i 0) ≡ false → spaces_first bs ≡ i + spaces_first (drop i bs) → i ≡ spaces_first bs
spaces_until bs i low e h =
    let next : spaces_first (drop i bs) ≡ 0 = ap spaces_first (from_next bs i low) ∙ spaces_cons (get_or bs i 0) (drop (i + 1) bs) false e in
    omega (arith, h, next)

-- nothing but spaces
pub spaces_all : (bs : List ℕ) (i : ℕ) → i ≡ length bs → spaces_first bs ≡ i + spaces_first (drop i bs) → length bs ≡ spaces_first bs
spaces_all bs i e h =
    let next : spaces_first (drop i bs) ≡ 0 = ap (λ k. spaces_first (drop k bs)) e ∙ ap spaces_first (drop-length bs) ∙ spaces_nil in
    omega (arith, h, next, e)

pub spaces_flush : (bs : List ℕ) → Flush bs → spaces_first bs ≡ 0
spaces_flush [] h = spaces_nil
spaces_flush (b ∷ bs) h = spaces_cons b bs false h
