-- Questions before work is done: what a yes and an answer tell.
use Rattle.std.proofs.Common.{◌≡◌, ℕ, Bool, true, false, Ok, Err, Result, refl, arith}
use Rattle.book.specs.declared.refusal.Refusal.{Refusal}
use Rattle.book.specs.Refusals.{ask}

-- a question whose answer is yes
pub ask_yes : {X : Type 0} (t : Bool) (r : Refusal) (x : Result X Refusal) → t ≡ true → ask t r x ≡ x
ask_yes true r x h = refl
ask_yes false r x h = let z : ◌≡◌ {A = ℕ} 0 1 = cc in absurd (omega arith)

-- two questions that differ only in what comes after a yes
pub ask_same : {X : Type 0} (t : Bool) (r : Refusal) (x y : Result X Refusal) → (t ≡ true → x ≡ y) → ask t r x ≡ ask t r y
ask_same true r x y h = h refl
ask_same false r x y h = refl

-- what came of questions that did not refuse
pub ask_ok : {X : Type 0} (t : Bool) (r : Refusal) (x : Result X Refusal) (n : X) → ask t r x ≡ Ok n → (t ≡ true) × (x ≡ Ok n)
ask_ok true r x n h = (refl, h)
ask_ok false r x n h = let z : ◌≡◌ {A = ℕ} 0 1 = cc in absurd (omega arith)

-- what came of a question before work that cannot fail, where it refused
pub ask_no : {X : Type 0} (t : Bool) (r : Refusal) (x : X) (e : Refusal) → ask t r (Ok x) ≡ Err e → (t ≡ false) × (e ≡ r)
ask_no true r x e h = let z : ◌≡◌ {A = ℕ} 0 1 = cc in absurd (omega arith)
ask_no false r x e h = (refl, cc)
