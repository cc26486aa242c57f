-- The first command of a draft, which is W, and the last, which is Z.
use Rattle.std.proofs.Common.{◌≡◌, ℕ, zero, suc, ◌+◌, ◌<◌, ◌≤◌, Bool, true, false, eqb, leb, ◌⊎◌, List, [], ◌∷◌, length, get_or, Ok, sym, refl, ap, ◌∙◌, inl, inr, arith}
use Rattle.std.specs.List.{AllByRecursion}
use Rattle.std.proofs.lemmas.Bool.{and_from, lt-ltb, le-leb, eq-eqb, cases_lt}
use Rattle.spelling.specs.declared.command.Command.TheVariants.{Width, End}
use Rattle.spelling.specs.declared.fault.Reason.TheVariants.{BadWidth, Missing, GoesOn}
use Rattle.spelling.specs.Reading.{Reading, More, Done}
use Rattle.spelling.specs.Commands.{command_of, wide_place}
use Rattle.spelling.specs.Turns.{ask, start, always, complete, turn}
use Rattle.spelling.specs.Steps.{after_width}
use Rattle.spelling.specs.Items.{Item, Right, Given, Needed}
use Rattle.spelling.specs.Spelling.{Spells}
use Rattle.spelling.proofs.Items.{given_wide, Unused}
use Rattle.spelling.proofs.Following.{Kept, Follows, rest_long, head_is, front_of, front_long, answered}

-- W.

pub width_read : (bytes : List ℕ) (n : ℕ) (rest : List ℕ) → 24 ≤ n → n ≤ 64 → bytes ≡ 87 ∷ (n ∷ rest) → turn bytes start ≡ Ok (More (after_width n))
width_read bytes n rest least most e = ap (λ b. turn b start) e ∙ answered (87 ∷ (n ∷ rest)) start Width (More (after_width n)) (record {
  byte = omega arith;
  letter = refl;
  sequence = refl;
  use_of = refl;
  there = omega arith;
  leads = ap (λ t. ask t BadWidth 0 (Ok (More (after_width n)))) (and_from (leb 24 n) (leb n 64) (le-leb 24 n least) (le-leb n 64 most));
})

-- Z.

pub nine_cases : (P : ℕ → Type 0) → P 0 → P 1 → P 2 → P 3 → P 4 → P 5 → P 6 → P 7 → P 8 → (k : ℕ) → k < 9 → P k
nine_cases P a b c d e f g i j zero h = a
nine_cases P a b c d e f g i j (suc zero) h = b
nine_cases P a b c d e f g i j (suc (suc zero)) h = c
nine_cases P a b c d e f g i j (suc (suc (suc zero))) h = d
nine_cases P a b c d e f g i j (suc (suc (suc (suc zero)))) h = e
nine_cases P a b c d e f g i j (suc (suc (suc (suc (suc zero))))) h = f
nine_cases P a b c d e f g i j (suc (suc (suc (suc (suc (suc zero)))))) h = g
nine_cases P a b c d e f g i j (suc (suc (suc (suc (suc (suc (suc zero))))))) h = i
nine_cases P a b c d e f g i j (suc (suc (suc (suc (suc (suc (suc (suc zero)))))))) h = j
nine_cases P a b c d e f g i j (suc (suc (suc (suc (suc (suc (suc (suc (suc k))))))))) h = absurd (omega arith)

-- Every part that the width needs was given.
pub needed_given : (n : ℕ) (given : List Bool) → complete n given ≡ true → (k : ℕ) → Needed n k → get_or given k false ≡ true
needed_given n given e k needed =
    nine_cases (λ m. (wide_place m ≡ true → 32 < n) → get_or given m false ≡ true)
    (λ w. grind arith) (λ w. grind arith) (λ w. let h = w refl in grind arith) (λ w. grind arith) (λ w. grind arith) (λ w. grind arith) (λ w. grind arith)
    (λ w. let h = w refl in grind arith) (λ w. let h = w refl in grind arith) k needed.0 needed.1

pub complete_from : (n : ℕ) (given : List Bool) → ((k : ℕ) → Needed n k → get_or given k false ≡ true) → complete n given ≡ true
complete_from n given all = go (cases_lt 32 n)
  where
    low : (k : ℕ) → k < 9 → wide_place k ≡ false → get_or given k false ≡ true
    low k h e = all k (h, λ f. cc)

    ever : always given ≡ true
    ever = grind (arith, low 0 (omega arith) refl, low 1 (omega arith) refl, low 3 (omega arith) refl, low 4 (omega arith) refl, low 5 (omega arith) refl, low 6 (omega arith) refl)

    go : (32 < n) ⊎ (n ≤ 32) → complete n given ≡ true
    go (inl w) = grind (arith, ever, all 2 (omega arith, λ f. w), all 7 (omega arith, λ f. w), all 8 (omega arith, λ f. w))
    go (inr h) = grind (arith, ever)

-- What a width has no use for is zero.
pub kept_unused : (n : ℕ) (items : List Item) (s : Reading) → AllByRecursion (Right n) items → Kept n items s → n ≤ 32 → Unused s.parts
kept_unused n items s right kept h =
    (kept.no_c1 (λ g. not 2 refl g), kept.no_four (λ g. not 7 refl g), kept.no_five (λ g. not 8 refl g))
  where
    not : (k : ℕ) → wide_place k ≡ true → Given k items → ⊥
    not k w g = omega (arith, given_wide n items right k g w)

pub done_spells : (bytes : List ℕ) (s : Reading) (n : ℕ) (items : List Item) → Follows bytes s n items (90 ∷ []) → ((k : ℕ) → Needed n k → Given k items)
    → Spells bytes s.parts
done_spells bytes s n items f all = record {
  least = rw w f.least;
  most = rw w f.most;
  items = items;
  is = rw w f.is;
  right = rw w f.right;
  once = f.once;
  all = rw w all;
  has = f.kept.has;
  six = f.kept.six;
  unused = λ h. kept_unused n items s f.right f.kept (omega (arith, w));
}
  where
    w : s.parts.width ≡ n
    w = f.kept.wide

pub done_read : (bytes : List ℕ) (s : Reading) (n : ℕ) (items : List Item) → Follows bytes s n items (90 ∷ []) → ((k : ℕ) → Needed n k → Given k items)
    → turn bytes s ≡ Ok (Done s.parts)
done_read bytes s n items f all = answered bytes s End (Done s.parts) (record {
  byte = omega (arith, whole);
  letter = ap command_of (head_is bytes (front_of n items) (90 ∷ []) s.at f.is at_is 90 [] refl);
  sequence = lt-ltb 0 s.at (omega (arith, f.kept.place));
  use_of = refl;
  there = omega (arith, whole);
  leads = ap (λ t. ask t Missing s.at (ask (eqb (s.at + 1) (length bytes)) GoesOn (s.at + 1) (Ok (Done s.parts))))
      (complete_from s.parts.width s.given (λ k needed. f.kept.marked k (all k (rw f.kept.wide at needed))))
      ∙ ap (λ t. ask t GoesOn (s.at + 1) (Ok (Done s.parts))) (eq-eqb (s.at + 1) (length bytes) (sym whole));
})
  where
    at_is : length (front_of n items) ≡ s.at
    at_is = front_long n items s f.kept

    whole : length bytes ≡ s.at + 1
    whole = rest_long bytes (front_of n items) (90 ∷ []) s.at f.is at_is
