-- A reading that follows some items: what it has noted, and how one more item leads on.
use Rattle.std.proofs.Common.{◌≡◌, ℕ, zero, suc, ◌+◌, ◌<◌, ◌≤◌, true, false, not, ltb, ◌⊎◌, List, [], ◌∷◌, ◌++◌, length, get_or, drop, set, replicate, Some, None, Ok, Err, Option, Result, sym, refl, ap, ◌∙◌, subst, inl, inr, arith}
use Rattle.std.specs.List.{AllByRecursion}
use Rattle.std.proofs.lemmas.List.{append-nil, append_assoc, length-append, length-set, get_or-set_same, get_or-set_other, get_or_at, drop_at, drop-drop, take_at, drop_more, take-append-drop, length-take-le, length-drop}
use Rattle.std.proofs.ByRecursion.{All-push}
use Rattle.std.proofs.lemmas.Bool.{and_from, not_from_false, false_from_ne_true, lt-ltb, cases_eq}
use Rattle.spelling.specs.declared.parts.Parts.{Parts}
use Rattle.spelling.specs.declared.command.Part.{Part as PartT}
use Rattle.spelling.specs.declared.command.Part.TheVariants.{Flow, C0, C1, Order}
use Rattle.spelling.specs.declared.command.Command.{Command}
use Rattle.spelling.specs.declared.command.Command.TheVariants.{Part}
use Rattle.spelling.specs.declared.fault.Fault.{Fault}
use Rattle.spelling.specs.declared.fault.Reason.{Reason}
use Rattle.spelling.specs.Reading.{Reading, Turn, More}
use Rattle.spelling.specs.Commands.{command_of, index_of, letter_of, place_of, part_operands, operands_of, has_use}
use Rattle.spelling.specs.Turns.{in_sequence, operand, part_fault, put_part, turn}
use Rattle.spelling.specs.Steps.{noted, after_width}
use Rattle.spelling.specs.Items.{Item, written, Right, New, Once, Given}
use Rattle.spelling.specs.Spelling.{Holds, Has}
use Rattle.spelling.proofs.Turning.{Asked}
use Rattle.spelling.proofs.Advancing.{same_width}
use Rattle.spelling.proofs.Items.{letter_means, index_small, place_small, none_from_fits, not_given, given_push, given_left, given_last, once_push}

-- What a part does to the parts before it.
record Put (p : PartT) (os : List ℕ) (a : Parts) : Type 0 where
  six : length (put_part p os a).orders ≡ length a.orders
  keeps : (q : PartT) (l : List ℕ) → (place_of q ≡ place_of p → ⊥) → Holds a q l → Holds (put_part p os a) q l
  holds : length a.orders ≡ 6 → Holds (put_part p os a) p os
  c1s : (place_of p ≡ 2 → ⊥) → (put_part p os a).c1 ≡ a.c1
  lists : (j : ℕ) → (place_of p ≡ 3 + j → ⊥) → get_or (put_part p os a).orders j [] ≡ get_or a.orders j []

keeps : (p q : PartT) (os l : List ℕ) (a : Parts) → (place_of q ≡ place_of p → ⊥) → Holds a q l → Holds (put_part p os a) q l
keeps (Flow f) (Flow g) os l a e h = absurd (e refl)
keeps C0 C0 os l a e h = absurd (e refl)
keeps C1 C1 os l a e h = absurd (e refl)
keeps (Order k) (Order m) os l a e h = get_or-set_other a.orders (index_of k) (index_of m) os [] (λ x. e (omega arith)) ∙ h
keeps p q os l a e h = h

put : (p : PartT) (os : List ℕ) (a : Parts) → Put p os a
put (Order k) os a = record {
  six = length-set a.orders (index_of k) os;
  keeps = λ q l. keeps (Order k) q os l a;
  holds = λ s. get_or-set_same a.orders (index_of k) os [] (omega (arith, index_small k));
  c1s = λ e. refl;
  lists = λ j e. get_or-set_other a.orders (index_of k) j os [] (λ x. e (omega arith));
}
put C1 os a = record { six = refl; keeps = λ q l. keeps C1 q os l a; holds = λ s. refl; c1s = λ e. absurd (e refl); lists = λ j e. refl }
put p os a = record { six = refl; keeps = λ q l. keeps p q os l a; holds = λ s. refl; c1s = λ e. refl; lists = λ j e. refl }

has_kept : (a : Parts) (p : PartT) (os : List ℕ) (is : List Item) → New p is → AllByRecursion (Has a) is → AllByRecursion (Has (put_part p os a)) is
has_kept a p os [] new h = tt
has_kept a p os (i ∷ is) new h = ((put p os a).keeps i.part i.operand new.0 h.0, has_kept a p os is new.1 h.1)

-- The reading after one more item.
abbrev pub next_of : Reading → Item → Reading
next_of s i = noted s i.part (put_part i.part i.operand s.parts)

pub written_push : (is : List Item) (i : Item) → written (is ++ (i ∷ [])) ≡ written is ++ (letter_of i.part ∷ i.operand)
written_push [] i = append-nil (letter_of i.part ∷ i.operand)
written_push (j ∷ is) i = rw (written_push is i) (sym (append_assoc (letter_of j.part ∷ j.operand) (written is) (letter_of i.part ∷ i.operand)))

-- What the reading after some items has noted of them.
pub record Kept (n : ℕ) (is : List Item) (s : Reading) : Type 0 where
  pub place : s.at ≡ 2 + length (written is)
  pub wide : s.parts.width ≡ n
  pub nine : length s.given ≡ 9
  pub marks : (k : ℕ) → get_or s.given k false ≡ true → Given k is
  pub marked : (k : ℕ) → Given k is → get_or s.given k false ≡ true
  pub six : length s.parts.orders ≡ 6
  pub has : AllByRecursion (Has s.parts) is
  pub no_c1 : (Given 2 is → ⊥) → s.parts.c1 ≡ 0
  pub no_four : (Given 7 is → ⊥) → get_or s.parts.orders 4 [] ≡ replicate 64 0
  pub no_five : (Given 8 is → ⊥) → get_or s.parts.orders 5 [] ≡ replicate 64 0

none_yet : (m k : ℕ) → get_or (replicate m false) k false ≡ false
none_yet zero k = refl
none_yet (suc m) zero = refl
none_yet (suc m) (suc k) = none_yet m k

kept_start : (n : ℕ) → Kept n [] (after_width n)
kept_start n = record {
  place = refl;
  wide = refl;
  nine = refl;
  marks = λ k e. cc (none_yet 9 k);
  marked = λ k g. absurd g;
  six = refl;
  has = tt;
  no_c1 = λ e. refl;
  no_four = λ e. refl;
  no_five = λ e. refl;
}

kept_more : (n : ℕ) (is : List Item) (s : Reading) (i : Item) → Kept n is s → New i.part is → length i.operand ≡ part_operands i.part
    → Kept n (is ++ (i ∷ [])) (next_of s i)
kept_more n is s i kept new long = record {
  place = rw (written_push is i, length-append (written is) (letter_of p ∷ os)) (omega arith);
  wide = same_width p os s.parts ∙ kept.wide;
  nine = length-set s.given (place_of p) true ∙ kept.nine;
  marks = λ k e. marks k e (cases_eq k (place_of p));
  marked = λ k g. marked k (given_push k is i g) (cases_eq k (place_of p));
  six = pt.six ∙ kept.six;
  has = All-push (Has (put_part p os s.parts)) is i (has_kept s.parts p os is new kept.has) (pt.holds kept.six);
  no_c1 = λ e. pt.c1s (λ x. e (last 2 x)) ∙ kept.no_c1 (λ g. e (given_left 2 is (i ∷ []) g));
  no_four = λ e. pt.lists 4 (λ x. e (last 7 x)) ∙ kept.no_four (λ g. e (given_left 7 is (i ∷ []) g));
  no_five = λ e. pt.lists 5 (λ x. e (last 8 x)) ∙ kept.no_five (λ g. e (given_left 8 is (i ∷ []) g));
}
  where
    p : PartT
    p = i.part

    os : List ℕ
    os = i.operand

    pt : Put p os s.parts
    pt = put p os s.parts

    last : (k : ℕ) → place_of p ≡ k → Given k (is ++ (i ∷ []))
    last k e = subst (λ x. Given x (is ++ (i ∷ []))) e (given_last is i)

    here : (k : ℕ) → k ≡ place_of p → get_or (set s.given (place_of p) true) k false ≡ true
    here k e = rw e (get_or-set_same s.given (place_of p) true false (omega (arith, place_small p, kept.nine)))

    marks : (k : ℕ) → get_or (set s.given (place_of p) true) k false ≡ true → (k ≡ place_of p) ⊎ (k ≡ place_of p → ⊥) → Given k (is ++ (i ∷ []))
    marks k e (inl x) = last k (sym x)
    marks k e (inr x) = given_left k is (i ∷ []) (kept.marks k (sym (get_or-set_other s.given (place_of p) k true false x) ∙ e))

    marked : (k : ℕ) → Given k is ⊎ (place_of p ≡ k) → (k ≡ place_of p) ⊎ (k ≡ place_of p → ⊥) → get_or (set s.given (place_of p) true) k false ≡ true
    marked k g (inl x) = here k x
    marked k (inl g) (inr x) = get_or-set_other s.given (place_of p) k true false x ∙ kept.marked k g
    marked k (inr e) (inr x) = absurd (x (sym e))

-- Everything before the next command was right, with what the reading has noted of it.
pub record Follows (bytes : List ℕ) (s : Reading) (n : ℕ) (items : List Item) (rest : List ℕ) : Type 0 where
  pub least : 24 ≤ n
  pub most : n ≤ 64
  pub is : bytes ≡ 87 ∷ (n ∷ (written items ++ rest))
  pub right : AllByRecursion (Right n) items
  pub once : Once items
  pub kept : Kept n items s

pub follows_width : (bytes : List ℕ) (n : ℕ) (rest : List ℕ) → 24 ≤ n → n ≤ 64 → bytes ≡ 87 ∷ (n ∷ rest) → Follows bytes (after_width n) n [] rest
follows_width bytes n rest least most e = record { least = least; most = most; is = e; right = tt; once = tt; kept = kept_start n }

pub follows_more : (bytes : List ℕ) (s : Reading) (n : ℕ) (items : List Item) (i : Item) (more : List ℕ)
    → Follows bytes s n items (letter_of i.part ∷ (i.operand ++ more)) → Right n i → New i.part items → Follows bytes (next_of s i) n (items ++ (i ∷ [])) more
follows_more bytes s n items i more f right new = record {
  least = f.least;
  most = f.most;
  is = f.is ∙ ap (λ x. 87 ∷ (n ∷ x)) again;
  right = All-push (Right n) items i f.right right;
  once = once_push items i f.once new;
  kept = kept_more n items s i f.kept new right.long;
}
  where
    again : written items ++ (letter_of i.part ∷ (i.operand ++ more)) ≡ written (items ++ (i ∷ [])) ++ more
    again = rw (written_push items i) (sym (append_assoc (written items) (letter_of i.part ∷ i.operand) more))

-- Bytes after a front of a length.
module _ (bytes front rest : List ℕ) (at : ℕ) (is : bytes ≡ front ++ rest) (long : length front ≡ at) where
  pub rest_long : length bytes ≡ at + length rest
  rest_long = rw (is, length-append front rest) (omega arith)

  pub rest_is : drop at bytes ≡ rest
  rest_is = rw is (drop_at front rest at long)

  pub head_is : (l : ℕ) (more : List ℕ) → rest ≡ l ∷ more → get_or bytes at 0 ≡ l
  head_is l more e = rw (is, e) (get_or_at front l more 0 at long)

  pub tail_is : (l : ℕ) (more : List ℕ) → rest ≡ l ∷ more → drop (at + 1) bytes ≡ more
  tail_is l more e = sym (drop-drop 1 at bytes) ∙ ap (drop 1) (rest_is ∙ e)

  pub split : (k : ℕ) → at + k < length bytes → rest ≡ get_or bytes at 0 ∷ (operand bytes at k ++ drop k (drop (at + 1) bytes))
  split k h = sym rest_is ∙ (drop_more bytes at 0 (omega arith) ∙ ap (λ x. get_or bytes at 0 ∷ x) (sym (take-append-drop k (drop (at + 1) bytes))))

  pub operand_long : (k : ℕ) → at + k < length bytes → length (operand bytes at k) ≡ k
  operand_long k h = length-take-le k (drop (at + 1) bytes) (rw (length-drop (at + 1) bytes) (omega arith))

  pub operand_is : (l : ℕ) (os more : List ℕ) (k : ℕ) → rest ≡ l ∷ (os ++ more) → length os ≡ k → operand bytes at k ≡ os
  operand_is l os more k e h = rw (tail_is l (os ++ more) e) (take_at os more k h)

-- every question answered yes
pub answered : (bytes : List ℕ) (s : Reading) (c : Command) (t : Turn) → Asked bytes s c t → turn bytes s ≡ Ok t
answered bytes s c t a = rw (lt-ltb s.at (length bytes) a.byte, a.letter, a.sequence, a.use_of, lt-ltb (s.at + operands_of c) (length bytes) a.there) a.leads

-- the front of the bytes, and its length
abbrev pub front_of : ℕ → List Item → List ℕ
front_of n items = 87 ∷ (n ∷ written items)

pub front_long : (n : ℕ) (items : List Item) (s : Reading) → Kept n items s → length (front_of n items) ≡ s.at
front_long n items s kept = omega (arith, kept.place)

-- what a part leads to, by what is wrong with its operand
abbrev pub at_part : Reading → PartT → List ℕ → Option Reason → Result Turn Fault
at_part s p os o = elim o [ Some why ↦ Err (record { reason = why; offset = s.at }) | None ↦ Ok (More (noted s p (put_part p os s.parts))) ]

-- a part that is new comes in sequence
pub new_in : (n : ℕ) (items : List Item) (s : Reading) (p : PartT) → Kept n items s → New p items → in_sequence s (Part p) ≡ true
new_in n items s p kept new =
    and_from (ltb 0 s.at) (not (get_or s.given (place_of p) false)) (lt-ltb 0 s.at (omega (arith, kept.place)))
    (not_from_false (get_or s.given (place_of p) false) (false_from_ne_true (get_or s.given (place_of p) false) (λ e. not_given p items new (kept.marks (place_of p) e))))

-- An item that is right and new is read.
pub item_read : (bytes : List ℕ) (s : Reading) (n : ℕ) (items : List Item) (i : Item) (more : List ℕ)
    → Follows bytes s n items (letter_of i.part ∷ (i.operand ++ more)) → Right n i → New i.part items → turn bytes s ≡ Ok (More (next_of s i))
item_read bytes s n items i more f right new = answered bytes s (Part p) (More (next_of s i)) (record {
  byte = omega (arith, whole, length-append os more);
  letter = ap command_of (head_is bytes front rest s.at f.is at_is (letter_of p) (os ++ more) refl) ∙ letter_means (Part p);
  sequence = new_in n items s p f.kept new;
  use_of = ap (λ w. has_use w (Part p)) f.kept.wide ∙ right.useful;
  there = omega (arith, whole, length-append os more, right.long);
  leads = ap (λ x. at_part s p x (part_fault s.parts.width p x)) (operand_is bytes front rest s.at f.is at_is (letter_of p) os more (part_operands p) refl right.long)
      ∙ ap (at_part s p os) (ap (λ w. part_fault w p os) f.kept.wide ∙ none_from_fits n p os right.fits);
})
  where
    p : PartT
    p = i.part

    os : List ℕ
    os = i.operand

    front : List ℕ
    front = front_of n items

    rest : List ℕ
    rest = letter_of p ∷ (os ++ more)

    at_is : length front ≡ s.at
    at_is = front_long n items s f.kept

    whole : length bytes ≡ s.at + length rest
    whole = rest_long bytes front rest s.at f.is at_is
