-- Lists of eight that are filled behind their first elements.
use Rattle.std.proofs.Common.{◌≡◌, ℕ, ◌+◌, ◌-◌, ◌≤◌, List, ◌++◌, length, take, drop, set, replicate, sym, ap, ◌∙◌, arith, length-take, take-append-drop}
use Rattle.std.proofs.lemmas.List.{drop-set-lt, drop-replicate, drop-drop}

-- such a list is known by its first elements alone
pub refilled : {A : Type 0} (blank : A) (xs : List A) (n : ℕ) → length xs ≡ 8 → n ≤ 8 → drop n xs ≡ replicate (8 - n) blank
    → (take n xs ++ replicate (8 - length (take n xs)) blank ≡ xs) × (length (take n xs) ≡ n)
refilled blank xs n eight few filled =
    let size : length (take n xs) ≡ n = omega (arith, length-take n xs) in
    (ap (λ k. take n xs ++ replicate (8 - k) blank) size ∙ ap (λ zs. take n xs ++ zs) (sym filled) ∙ take-append-drop n xs, size)

-- it is filled behind one more
pub filled_next : {A : Type 0} (blank : A) (xs : List A) (j : ℕ) (x : A) → drop j xs ≡ replicate (8 - j) blank → drop (j + 1) (set xs j x) ≡ replicate (8 - (j + 1)) blank
filled_next blank xs j x filled =
    let less : 8 - j - 1 ≡ 8 - (j + 1) = omega arith in
    drop-set-lt (j + 1) xs j x (omega arith) ∙ sym (drop-drop 1 j xs) ∙ ap (drop 1) filled ∙ drop-replicate 1 (8 - j) blank ∙ ap (λ n. replicate n blank) less
