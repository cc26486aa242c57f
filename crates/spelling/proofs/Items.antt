-- Items: their letters, what fits, which places they give, and what a draft has of them.
use Rattle.std.proofs.Common.{◌≡◌, ◌≢◌, ℕ, zero, suc, ◌+◌, ◌^◌, ◌<◌, ◌≤◌, Bool, true, false, cond, eqb, ltb, ◌⊎◌, List, [], ◌∷◌, ◌++◌, length, get_or, replicate, Some, None, Option, sym, refl, ap, ◌∙◌, subst, inl, inr, arith}
use Rattle.std.specs.List.{AllByRecursion}
use Rattle.std.proofs.ByRecursion.{All-push}
use Rattle.std.proofs.lemmas.List.{ext_get_or}
use Rattle.std.proofs.lemmas.Bool.{ltb-true, lt-ltb, eqb-true, cases_eq, cases_lt}
use Rattle.bits.specs.Orders.{fault_at, Sound}
use Rattle.spelling.specs.declared.parts.Flow.{Flow as FlowT}
use Rattle.spelling.specs.declared.parts.Flow.TheVariants.{Flex, Cpa}
use Rattle.spelling.specs.declared.parts.Parts.{Parts}
use Rattle.spelling.specs.declared.command.OrderName.{OrderName}
use Rattle.spelling.specs.declared.command.OrderName.TheVariants.{R0, R1, R2, R3, R4, R5}
use Rattle.spelling.specs.declared.command.Part.{Part as PartT}
use Rattle.spelling.specs.declared.command.Part.TheVariants.{Flow, C0, C1, Order}
use Rattle.spelling.specs.declared.command.Command.{Command}
use Rattle.spelling.specs.declared.command.Command.TheVariants.{Width, Part, End}
use Rattle.spelling.specs.declared.fault.Reason.{Reason}
use Rattle.spelling.specs.declared.fault.Reason.TheVariants.{TooLarge, NoOrder}
use Rattle.spelling.specs.Commands.{command_of, command_letter, index_of, place_of, wide_place, number, order_size}
use Rattle.spelling.specs.Turns.{first_fault, part_fault}
use Rattle.spelling.specs.Items.{Item, Fits, Right, New, Once, Given, Needed}
use Rattle.spelling.specs.Spelling.{Holds, Has}
use Rattle.spelling.proofs.Operands.{none_at_fault}

-- Letters.

named : (l m : ℕ) (c₀ : Command) (d : Option Command) (c : Command) → command_letter c₀ ≡ m → (d ≡ Some c → l ≡ command_letter c) → cond (eqb l m) (Some c₀) d ≡ Some c → l ≡ command_letter c
named l m c₀ d c is other e = go (eqb l m) refl e
  where
    go : (b : Bool) → eqb l m ≡ b → cond b (Some c₀) d ≡ Some c → l ≡ command_letter c
    go true t f = let a : c₀ ≡ c = cc in eqb-true l m t ∙ (sym is ∙ ap command_letter a)
    go false t f = other f

pub letter_is : (l : ℕ) (c : Command) → command_of l ≡ Some c → l ≡ command_letter c
letter_is l c e =
    named l 87 Width _ c refl (
    named l 70 (Part (Flow Flex)) _ c refl (
    named l 80 (Part (Flow Cpa)) _ c refl (
    named l 65 (Part C0) _ c refl (
    named l 66 (Part C1) _ c refl (
    named l 48 (Part (Order R0)) _ c refl (
    named l 49 (Part (Order R1)) _ c refl (
    named l 50 (Part (Order R2)) _ c refl (
    named l 51 (Part (Order R3)) _ c refl (
    named l 52 (Part (Order R4)) _ c refl (
    named l 53 (Part (Order R5)) _ c refl (
    named l 90 End None c refl (λ f. cc)))))))))))) e

pub letter_means : (c : Command) → command_of (command_letter c) ≡ Some c
letter_means Width = refl
letter_means (Part (Flow Flex)) = refl
letter_means (Part (Flow Cpa)) = refl
letter_means (Part C0) = refl
letter_means (Part C1) = refl
letter_means (Part (Order R0)) = refl
letter_means (Part (Order R1)) = refl
letter_means (Part (Order R2)) = refl
letter_means (Part (Order R3)) = refl
letter_means (Part (Order R4)) = refl
letter_means (Part (Order R5)) = refl
letter_means End = refl

pub index_small : (k : OrderName) → index_of k < 6
index_small R0 = omega arith
index_small R1 = omega arith
index_small R2 = omega arith
index_small R3 = omega arith
index_small R4 = omega arith
index_small R5 = omega arith

pub place_small : (p : PartT) → place_of p < 9
place_small (Flow f) = omega arith
place_small C0 = omega arith
place_small C1 = omega arith
place_small (Order k) = omega (arith, index_small k)

pub letter_of_none : (l : ℕ) → command_of l ≡ None → (c : Command) → command_letter c ≢ l
letter_of_none l e c x = let d : ◌≡◌ {A = Option Command} None (Some c) = sym e ∙ (sym (ap command_of x) ∙ letter_means c) in cc

pub none_of_letters : (l : ℕ) → ((c : Command) → command_letter c ≢ l) → command_of l ≡ None
none_of_letters l none = go (command_of l) refl
  where
    go : (o : Option Command) → command_of l ≡ o → command_of l ≡ None
    go None e = e
    go (Some c) e = absurd (none c (sym (letter_is l c e)))

-- What fits.

none_before : (n : ℕ) (list : List ℕ) (k i : ℕ) → first_fault n list k i ≡ None → (j : ℕ) → i ≤ j → j < i + k → fault_at n list j ≡ false
unfolding first_fault
none_before n list zero i e j a b = absurd (omega arith)
none_before n list (suc k) i e j a b = go (fault_at n list i) refl e (cases_eq i j) (λ f c. none_before n list k (suc i) f j c (omega arith))
  where
    go : (t : Bool) → fault_at n list i ≡ t → ◌≡◌ {A = Option ℕ} (elim t [ true ↦ Some i | false ↦ first_fault n list k (suc i) ]) None → (i ≡ j) ⊎ (i ≡ j → ⊥)
        → (first_fault n list k (suc i) ≡ None → suc i ≤ j → fault_at n list j ≡ false) → fault_at n list j ≡ false
    go true is f w later = cc
    go false is f (inl x) later = ap (fault_at n list) (sym x) ∙ is
    go false is f (inr x) later = later f (omega arith)

pub sound_from_none : (n : ℕ) (list : List ℕ) → first_fault n list (length list) 0 ≡ None → Sound n list
sound_from_none n list e j h = none_before n list (length list) 0 e j (omega arith) (omega arith)

abbrev pub order_why : Option ℕ → Option Reason
order_why o = elim o [ None ↦ None | Some p ↦ Some (NoOrder p) ]

pub none_from_fits : (n : ℕ) (p : PartT) (os : List ℕ) → Fits n p os → part_fault n p os ≡ None
none_from_fits n (Flow f) os h = refl
none_from_fits n C0 os h = ap (λ t. cond t None (Some TooLarge)) (lt-ltb (number os) (2 ^ n) h)
none_from_fits n C1 os h = refl
none_from_fits n (Order k) os h = ap order_why (sym (none_at_fault (order_size n (index_of k)) os h))

-- Which places are given.

pub new_or_given : (p : PartT) (is : List Item) → New p is ⊎ Given (place_of p) is
new_or_given p [] = inl tt
new_or_given p (i ∷ is) = go (cases_eq (place_of i.part) (place_of p)) (new_or_given p is)
  where
    go : (place_of i.part ≡ place_of p) ⊎ (place_of i.part ≡ place_of p → ⊥) → New p is ⊎ Given (place_of p) is → New p (i ∷ is) ⊎ Given (place_of p) (i ∷ is)
    go (inl e) either = inr (inl e)
    go (inr ne) (inl new) = inl (ne, new)
    go (inr ne) (inr g) = inr (inr g)

pub not_given : (p : PartT) (is : List Item) → New p is → Given (place_of p) is → ⊥
not_given p [] new g = g
not_given p (i ∷ is) new (inl e) = new.0 e
not_given p (i ∷ is) new (inr g) = not_given p is new.1 g

pub given_push : (k : ℕ) (is : List Item) (i : Item) → Given k (is ++ (i ∷ [])) → Given k is ⊎ (place_of i.part ≡ k)
given_push k [] i (inl e) = inr e
given_push k [] i (inr g) = absurd g
given_push k (j ∷ is) i (inl e) = inl (inl e)
given_push k (j ∷ is) i (inr g) = go (given_push k is i g)
  where
    go : Given k is ⊎ (place_of i.part ≡ k) → Given k (j ∷ is) ⊎ (place_of i.part ≡ k)
    go (inl h) = inl (inr h)
    go (inr e) = inr e

pub given_left : (k : ℕ) (is js : List Item) → Given k is → Given k (is ++ js)
given_left k [] js g = absurd g
given_left k (i ∷ is) js (inl e) = inl e
given_left k (i ∷ is) js (inr g) = inr (given_left k is js g)

pub given_last : (is : List Item) (i : Item) → Given (place_of i.part) (is ++ (i ∷ []))
given_last [] i = inl refl
given_last (j ∷ is) i = inr (given_last is i)

pub once_push : (is : List Item) (i : Item) → Once is → New i.part is → Once (is ++ (i ∷ []))
once_push [] i once new = (tt, tt)
once_push (j ∷ is) i once new = (All-push (λ k. place_of k.part ≢ place_of j.part) is i once.0 (λ e. new.0 (sym e)), once_push is i once.1 new.1)

pub all_at : {X : Type 0} (P : X → Type 0) (is : List X) (i : X) (js : List X) → AllByRecursion P (is ++ (i ∷ js)) → P i
all_at P [] i js a = a.0
all_at P (j ∷ is) i js a = all_at P is i js a.1

pub once_new : (is : List Item) (i : Item) (js : List Item) → Once (is ++ (i ∷ js)) → New i.part is
once_new [] i js once = tt
once_new (j ∷ is) i js once = ((λ e. all_at (λ k. place_of k.part ≢ place_of j.part) is i js once.0 (sym e)), once_new is i js once.1)

useful_wide : (n : ℕ) (w : Bool) → cond w (ltb 32 n) true ≡ true → w ≡ true → 32 < n
useful_wide n true e h = ltb-true 32 n e
useful_wide n false e h = cc

-- The places for widths above 32 are given only there.
pub given_wide : (n : ℕ) (is : List Item) → AllByRecursion (Right n) is → (k : ℕ) → Given k is → wide_place k ≡ true → 32 < n
given_wide n [] right k g w = absurd g
given_wide n (i ∷ is) right k (inl e) w = useful_wide n (wide_place (place_of i.part)) right.0.useful (ap wide_place e ∙ w)
given_wide n (i ∷ is) right k (inr g) w = given_wide n is right.1 k g w

-- What a draft has of the items determines it.

-- two drafts have the same at a place
record Same (a b : Parts) (k : ℕ) : Type 0 where
  flows : k ≡ 0 → a.flow ≡ b.flow
  c0s : k ≡ 1 → a.c0 ≡ b.c0
  c1s : k ≡ 2 → a.c1 ≡ b.c1
  lists : (j : ℕ) → k ≡ 3 + j → get_or a.orders j [] ≡ get_or b.orders j []

same_of : (a b : Parts) (p : PartT) (os : List ℕ) → Holds a p os → Holds b p os → Same a b (place_of p)
same_of a b (Flow f) os h i = record { flows = λ e. h ∙ sym i; c0s = λ e. absurd (omega arith); c1s = λ e. absurd (omega arith); lists = λ j e. absurd (omega arith) }
same_of a b C0 os h i = record { flows = λ e. absurd (omega arith); c0s = λ e. h ∙ sym i; c1s = λ e. absurd (omega arith); lists = λ j e. absurd (omega arith) }
same_of a b C1 os h i = record { flows = λ e. absurd (omega arith); c0s = λ e. absurd (omega arith); c1s = λ e. h ∙ sym i; lists = λ j e. absurd (omega arith) }
same_of a b (Order k) os h i = record {
  flows = λ e. absurd (omega arith);
  c0s = λ e. absurd (omega arith);
  c1s = λ e. absurd (omega arith);
  lists = λ j e. let f : index_of k ≡ j = omega arith in subst (λ x. get_or a.orders x [] ≡ get_or b.orders x []) f (h ∙ sym i);
}

same_given : (a b : Parts) (is : List Item) → AllByRecursion (Has a) is → AllByRecursion (Has b) is → (k : ℕ) → Given k is → Same a b k
same_given a b [] h i k g = absurd g
same_given a b (j ∷ is) h i k (inl e) = subst (Same a b) e (same_of a b j.part j.operand h.0 i.0)
same_given a b (j ∷ is) h i k (inr g) = same_given a b is h.1 i.1 k g

-- what a draft has where its width has no use for it
abbrev pub Unused : Parts → Type 0
Unused p = (p.c1 ≡ 0) × (get_or p.orders 4 [] ≡ replicate 64 0) × (get_or p.orders 5 [] ≡ replicate 64 0)

abbrev all_of : ℕ → FlowT → ℕ → ℕ → List (List ℕ) → Parts
all_of w f c d os = record { width = w; flow = f; c0 = c; c1 = d; orders = os }

same_parts : (a b : Parts) → a.width ≡ b.width → a.flow ≡ b.flow → a.c0 ≡ b.c0 → a.c1 ≡ b.c1 → a.orders ≡ b.orders → a ≡ b
same_parts a b e f g h i =
    let z : all_of a.width a.flow a.c0 a.c1 a.orders ≡ all_of b.width b.flow b.c0 b.c1 b.orders = cc in z

six_same : (xs ys : List (List ℕ)) → length xs ≡ 6 → length ys ≡ 6 → ((j : ℕ) → j < 6 → get_or xs j [] ≡ get_or ys j []) → xs ≡ ys
six_same xs ys e f each = ext_get_or [] xs ys (e ∙ sym f) (λ j h. each j (omega arith))

pub six_cases : (P : ℕ → Type 0) → P 0 → P 1 → P 2 → P 3 → P 4 → P 5 → (j : ℕ) → j < 6 → P j
six_cases P a b c d e f zero h = a
six_cases P a b c d e f (suc zero) h = b
six_cases P a b c d e f (suc (suc zero)) h = c
six_cases P a b c d e f (suc (suc (suc zero))) h = d
six_cases P a b c d e f (suc (suc (suc (suc zero)))) h = e
six_cases P a b c d e f (suc (suc (suc (suc (suc zero))))) h = f
six_cases P a b c d e f (suc (suc (suc (suc (suc (suc j)))))) h = absurd (omega arith)

pub parts_same : (n : ℕ) (a b : Parts) (is : List Item) → a.width ≡ n → b.width ≡ n → ((k : ℕ) → Needed n k → Given k is)
    → AllByRecursion (Has a) is → AllByRecursion (Has b) is → length a.orders ≡ 6 → length b.orders ≡ 6 → (n ≤ 32 → Unused a) → (n ≤ 32 → Unused b) → a ≡ b
parts_same n a b is wa wb all ha hb sa sb ua ub =
    same_parts a b (wa ∙ sym wb) ((low 0 (omega arith) refl).flows refl) ((low 1 (omega arith) refl).c0s refl) (c1_same (cases_lt 32 n))
    (six_same a.orders b.orders sa sb
    (six_cases (λ j. get_or a.orders j [] ≡ get_or b.orders j [])
    ((low 3 (omega arith) refl).lists 0 refl) ((low 4 (omega arith) refl).lists 1 refl) ((low 5 (omega arith) refl).lists 2 refl)
    ((low 6 (omega arith) refl).lists 3 refl) (four (cases_lt 32 n)) (five (cases_lt 32 n))))
  where
    low : (k : ℕ) → k < 9 → wide_place k ≡ false → Same a b k
    low k h e = same_given a b is ha hb k (all k (h, λ f. cc))

    wide : (k : ℕ) → k < 9 → 32 < n → Same a b k
    wide k h w = same_given a b is ha hb k (all k (h, λ f. w))

    c1_same : (32 < n) ⊎ (n ≤ 32) → a.c1 ≡ b.c1
    c1_same (inl w) = (wide 2 (omega arith) w).c1s refl
    c1_same (inr h) = (ua h).0 ∙ sym (ub h).0

    four : (32 < n) ⊎ (n ≤ 32) → get_or a.orders 4 [] ≡ get_or b.orders 4 []
    four (inl w) = (wide 7 (omega arith) w).lists 4 refl
    four (inr h) = (ua h).1 ∙ sym (ub h).1

    five : (32 < n) ⊎ (n ≤ 32) → get_or a.orders 5 [] ≡ get_or b.orders 5 []
    five (inl w) = (wide 8 (omega arith) w).lists 5 refl
    five (inr h) = (ua h).2 ∙ sym (ub h).2
