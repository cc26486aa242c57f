-- A loop that codes each of many numbers in place.
use Rattle.std.proofs.Common.{◌≡◌, ℕ, ◌+◌, ◌<◌, ◌≤◌, List, ◌++◌, length, get_or, map, take, drop, Ok, Result, refl, sym, ◌∙◌, arith, set}
use Rattle.std.proofs.lemmas.Grind.{common_steps}
use Rattle.std.proofs.lemmas.List.Edits.{map_over_more}
use Rattle.std.specs.Result.{IsOk}
use Rattle.codings.specs.declared.refusal.AboveTop.{AboveTop}
use Rattle.codings.specs.Asking.{coded}
use Rattle.codings.proofs.Answering.{answered, told}
use Rattle.meanings.specs.Meaning.{Meaning}

-- What stands after i numbers were coded.
abbrev pub Reached : (f : ℕ → ℕ) (xs ys : List ℕ) (i : ℕ) → Type 0
Reached f xs ys i = ys ≡ map f (take i xs) ++ drop i xs

pub still : (f : ℕ → ℕ) (xs ys : List ℕ) (i d : ℕ) → i < length xs → Reached f xs ys i → get_or ys i d ≡ get_or xs i d
still f xs ys i d h e = rw e (grind (arith, common_steps))

pub still_within : (f : ℕ → ℕ) (xs ys : List ℕ) (i top d : ℕ) → i < length xs → Reached f xs ys i → ((k e : ℕ) → k < length xs → get_or xs k e ≤ top) → get_or ys i d ≤ top
still_within f xs ys i top d h e within = rw (still f xs ys i d h e) (within i d h)

pub is_ok : (m : Meaning) (x : ℕ) (r : Result ℕ AboveTop) → x ≤ m.top → r ≡ coded m x → IsOk r
is_ok m x r h e = let was : r ≡ Ok (m.rule x) = e ∙ sym (answered m x (m.rule x) h refl) in rw was refl

pub its_code : (m : Meaning) (x y : ℕ) (r : Result ℕ AboveTop) → r ≡ coded m x → r ≡ Ok y → y ≡ m.rule x
its_code m x y r e was = (told m x y (sym was ∙ e)).1

pub one_more : (f : ℕ → ℕ) (xs ys : List ℕ) (i d y : ℕ) → i < length xs → Reached f xs ys i → y ≡ f (get_or ys i d) → Reached f xs (set ys i y) (i + 1)
one_more f xs ys i d y h e code =
    let long : length ys ≡ length xs = rw e (grind (arith, common_steps)) in
    let there : i < length ys = omega arith in
    rw code (map_over_more f xs ys i (get_or ys i d) h e (grind (arith, common_steps)))
