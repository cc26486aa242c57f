-- What a coding answers within its top and above it.
use Rattle.std.proofs.Common.{◌≡◌, ℕ, ◌<◌, ◌≤◌, min, ◌⊎◌, Ok, Err, Result, sym, refl, ◌∙◌, inl, inr, arith}
use Rattle.std.proofs.lemmas.Bool.{cases_lt, le-leb, lt-leb}
use Rattle.meanings.specs.Layers.{narrowed}
use Rattle.meanings.specs.Meaning.{Meaning, Lawful, Same}
use Rattle.meanings.proofs.Walking.{On, left, begins, goes_on, ends}
use Rattle.codings.specs.declared.refusal.AboveTop.{AboveTop}
use Rattle.codings.specs.Asking.{coded, above_top}

pub answered : (m : Meaning) (x v : ℕ) → x ≤ m.top → v ≡ m.rule x → Ok v ≡ coded m x
answered m x v h e = rw (e, coded, le-leb x m.top h)

pub refused : (m : Meaning) (x : ℕ) → m.top < x → Err above_top ≡ coded m x
refused m x h = rw (coded, lt-leb x m.top h)

-- an answer tells that the number is within the top, and which code it has
pub told : (m : Meaning) (x y : ℕ) → Ok y ≡ coded m x → (x ≤ m.top) × (y ≡ m.rule x)
told m x y e = go (cases_lt m.top x)
  where
    go : (m.top < x) ⊎ (x ≤ m.top) → (x ≤ m.top) × (y ≡ m.rule x)
    go (inl out) = let no_way : ◌≡◌ {A = Result ℕ AboveTop} (Ok y) (Err above_top) = e ∙ sym (refused m x out) in let z : ◌≡◌ {A = ℕ} 0 1 = cc in absurd (omega arith)
    go (inr ins) = let same : ◌≡◌ {A = Result ℕ AboveTop} (Ok y) (Ok (m.rule x)) = e ∙ sym (answered m x (m.rule x) ins refl) in (ins, cc)

-- What a narrowing loop keeps: y lies on the way from x, and once it is at most the new top it is the answer.
abbrev pub Walks : (t top : ℕ) → Meaning → (x y : ℕ) → Type 0
Walks t top m x y = On top m x y × (y ≤ top → Ok y ≡ coded (narrowed t m) x)

-- The turns of the loop, by what the coding below answered. `top` is the new top, and y the answer at w.
module _ (t top : ℕ) (m : Meaning) (l : Lawful m) (new : top ≡ min t m.top) (x : ℕ) (low : x ≤ top) where
  answer : (y : ℕ) → On top m x y → y ≤ top → Ok y ≡ coded (narrowed t m) x
  answer y on small = answered (narrowed t m) x y (rw new at low) (ends t top m x y new on small)

  pub walk_begins : (y : ℕ) → Ok y ≡ coded m x → Walks t top m x y
  walk_begins y e =
      let on : On top m x y = rw (told m x y e).1 (begins t top m l x new low) in
      (on, answer y on)

  pub walk_again : (w y : ℕ) → top < w → Ok y ≡ coded m w → On top m x w → Walks t top m x y
  walk_again w y above e before =
      let on : On top m x y = rw (told m w y e).1 (goes_on top m l x w before above).0 in
      (on, answer y on)

  pub walk_less : (w y : ℕ) → top < w → Ok y ≡ coded m w → On top m x w → left top m y < left top m w
  walk_less w y above e before = rw (told m w y e).1 (goes_on top m l x w before above).1

-- equal codings give the same answers
pub same_answers : (l r : Meaning) → Same l r → (x : ℕ) → coded l x ≡ coded r x
same_answers l r s x = go (cases_lt l.top x)
  where
    go : (l.top < x) ⊎ (x ≤ l.top) → coded l x ≡ coded r x
    go (inl out) = sym (refused l x out) ∙ refused r x (rw s.tops at out)
    go (inr ins) = sym (answered l x (l.rule x) ins refl) ∙ answered r x (l.rule x) (rw s.tops at ins) (s.rules x ins)
