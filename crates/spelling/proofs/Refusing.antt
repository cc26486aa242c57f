-- What bytes at fault lead to, and that bytes are at fault or lead on.
use Rattle.std.proofs.Common.{◌≡◌, ◌≢◌, ℕ, zero, suc, ◌+◌, ◌^◌, ◌<◌, ◌≤◌, Bool, true, false, not, ◌&&◌, cond, eqb, leb, ltb, ◌⊎◌, List, [], ◌∷◌, ◌++◌, length, get_or, take, drop, Some, None, Ok, Err, Option, Result, sym, refl, ap, ◌∙◌, subst, inl, inr, arith}
use Rattle.std.proofs.lemmas.List.{take-append-drop, length-take-le, length-append}
use Rattle.std.proofs.lemmas.Bool.{lt-ltb, le-ltb, lt-leb, and_left, and_right, ne_eqb, false_from_ne_true, cases_Bool, cases_eq, cases_lt}
use Rattle.spelling.specs.declared.command.Part.{Part as PartT}
use Rattle.spelling.specs.declared.command.Part.TheVariants.{Flow, C0, C1, Order}
use Rattle.spelling.specs.declared.command.Command.{Command}
use Rattle.spelling.specs.declared.command.Command.TheVariants.{Width, Part, End}
use Rattle.spelling.specs.declared.command.OrderName.{OrderName}
use Rattle.spelling.specs.declared.command.OrderName.TheVariants.{R0, R1, R2, R3, R4, R5}
use Rattle.spelling.specs.declared.parts.Flow.TheVariants.{Flex}
use Rattle.spelling.specs.declared.fault.Fault.{Fault}
use Rattle.spelling.specs.declared.fault.Reason.{Reason}
use Rattle.spelling.specs.declared.fault.Reason.TheVariants.{NoByte, NoCommand, OutOfSequence, NoUse, BadWidth, TooLarge, NoOrder, Missing, GoesOn}
use Rattle.spelling.specs.Reading.{Reading, Turn, More, Done}
use Rattle.spelling.specs.Commands.{command_of, command_letter, index_of, letter_of, place_of, part_operands, operands_of, has_use, wide_place, number, order_size}
use Rattle.spelling.specs.Items.{Item, Right, New, Given, Needed}
use Rattle.spelling.specs.Faulty.{NoAtStart, NoLater}
use Rattle.spelling.specs.Spelling.{told_at}
use Rattle.spelling.specs.Turns.{ask, in_sequence, start, part_fault, first_fault, complete, after, given_command, command_at, turn}
use Rattle.spelling.specs.Steps.{after_width}
use Rattle.spelling.proofs.Operands.{first_found, first_means}
use Rattle.spelling.proofs.Turning.{at_letter}
use Rattle.spelling.proofs.Items.{letter_is, letter_means, letter_of_none, none_of_letters, place_small, sound_from_none, order_why, new_or_given, not_given}
use Rattle.spelling.proofs.Following.{Follows, rest_long, head_is, operand_is, front_of, front_long, at_part, new_in}
use Rattle.spelling.proofs.Ends.{nine_cases, needed_given, complete_from}

abbrev pub refused_at : ℕ → Reason → Result Turn Fault
refused_at at why = Err (record { reason = why; offset = at })

-- the questions that are put to a known command
abbrev asks : ℕ → Bool → Bool → Bool → Result Turn Fault → Result Turn Fault
asks at a b c r = ask a OutOfSequence at (ask b NoUse at (ask c NoByte at r))

asks_as : (at : ℕ) (a b c x y z : Bool) (r : Result Turn Fault) → a ≡ x → b ≡ y → c ≡ z → asks at a b c r ≡ asks at x y z r
asks_as at a b c x y z r e f g = ap (λ t. asks at t b c r) e ∙ (ap (λ t. asks at x t c r) f ∙ ap (λ t. asks at x y t r) g)

module _ (bytes : List ℕ) (s : Reading) where
  no_byte : length bytes ≤ s.at → turn bytes s ≡ refused_at s.at NoByte
  no_byte h = ap (λ t. ask t NoByte s.at (elim (command_at bytes s.at) [ Err f ↦ Err f | Ok c ↦ given_command bytes s c ])) (le-ltb s.at (length bytes) h)

  at_command : (o : Option Command) → s.at < length bytes → command_of (get_or bytes s.at 0) ≡ o
      → turn bytes s ≡ elim (at_letter s o) [ Err f ↦ Err f | Ok c ↦ given_command bytes s c ]
  at_command o h e = rw (lt-ltb s.at (length bytes) h, e) refl

  asked_as : (c : Command) (x y z : Bool) → in_sequence s c ≡ x → has_use s.parts.width c ≡ y → ltb (s.at + operands_of c) (length bytes) ≡ z
      → given_command bytes s c ≡ asks s.at x y z (after bytes s c)
  asked_as c x y z e f g = asks_as s.at (in_sequence s c) (has_use s.parts.width c) (ltb (s.at + operands_of c) (length bytes)) x y z (after bytes s c) e f g

  no_sequence : (c : Command) → in_sequence s c ≡ false → given_command bytes s c ≡ refused_at s.at OutOfSequence
  no_sequence c e = asked_as c false _ _ e refl refl

-- The first command.

start_known : (bytes : List ℕ) (c : Command) (behind : List ℕ) → bytes ≡ command_letter c ∷ behind → turn bytes start ≡ given_command bytes start c
start_known bytes c behind e = at_command bytes start (Some c) (omega (arith, ap length e)) (ap (λ b. command_of (get_or b 0 0)) e ∙ letter_means c)

not_first : (bytes : List ℕ) (c : Command) → c ≢ Width → given_command bytes start c ≡ refused_at 0 OutOfSequence
not_first bytes Width e = absurd (e refl)
not_first bytes (Part p) e = refl
not_first bytes End e = refl

abbrev with_size : ℕ → Result Turn Fault
with_size n = ask (leb 24 n && leb n 64) BadWidth 0 (Ok (More (after_width n)))

wrong_size : (n : ℕ) → (n < 24) ⊎ (64 < n) → (leb 24 n && leb n 64) ≡ false
wrong_size n (inl h) = and_left (leb 24 n) (leb n 64) (lt-leb 24 n h)
wrong_size n (inr h) = and_right (leb 24 n) (leb n 64) (lt-leb n 64 h)

pub start_refused : (bytes : List ℕ) (why : Reason) → NoAtStart bytes why → turn bytes start ≡ refused_at 0 why
start_refused bytes NoByte (inl e) = no_byte bytes start (omega (arith, ap length e))
start_refused bytes NoByte (inr e) = start_known bytes Width [] e ∙ asked_as bytes start Width true true false refl refl (le-ltb 1 (length bytes) (omega (arith, ap length e)))
start_refused bytes NoCommand w =
    at_command bytes start None (omega (arith, ap length w.is)) (ap (λ b. command_of (get_or b 0 0)) w.is ∙ none_of_letters w.byte w.none)
start_refused bytes OutOfSequence w = start_known bytes w.command w.behind w.is ∙ not_first bytes w.command w.other
start_refused bytes BadWidth w =
    start_known bytes Width (w.width ∷ w.behind) w.is
    ∙ (asked_as bytes start Width true true true refl refl (lt-ltb 1 (length bytes) (omega (arith, ap length w.is)))
    ∙ (ap (λ b. with_size (get_or b 1 0)) w.is ∙ ap (λ t. ask t BadWidth 0 (Ok (More (after_width w.width)))) (wrong_size w.width w.wrong)))
start_refused bytes NoUse w = absurd w
start_refused bytes TooLarge w = absurd w
start_refused bytes (NoOrder p) w = absurd w
start_refused bytes Missing w = absurd w
start_refused bytes GoesOn w = absurd w

-- The first command is at fault, or it is W with a width.
pub data Start (bytes : List ℕ) : Type 0 where
  no_start : (why : Reason) → NoAtStart bytes why → Start bytes
  wide : (n : ℕ) (rest : List ℕ) → 24 ≤ n → n ≤ 64 → bytes ≡ 87 ∷ (n ∷ rest) → Start bytes

at_width : (l : ℕ) (more : List ℕ) → l ≡ 87 → Start (l ∷ more)
at_width l [] e = no_start NoByte (inr (ap (λ x. x ∷ []) e))
at_width l (n ∷ rest) e = go (cases_lt n 24) (cases_lt 64 n)
  where
    is : l ∷ (n ∷ rest) ≡ 87 ∷ (n ∷ rest)
    is = ap (λ x. x ∷ (n ∷ rest)) e

    go : (n < 24) ⊎ (24 ≤ n) → (64 < n) ⊎ (n ≤ 64) → Start (l ∷ (n ∷ rest))
    go (inl h) either = no_start BadWidth (record { width = n; behind = rest; is = is; wrong = inl h })
    go (inr a) (inl h) = no_start BadWidth (record { width = n; behind = rest; is = is; wrong = inr h })
    go (inr a) (inr b) = wide n rest a b is

pub starts : (bytes : List ℕ) → Start bytes
starts [] = no_start NoByte (inl refl)
starts (l ∷ more) = go (command_of l) refl
  where
    go : (o : Option Command) → command_of l ≡ o → Start (l ∷ more)
    go None e = no_start NoCommand (record { byte = l; behind = more; is = refl; none = letter_of_none l e })
    go (Some Width) e = at_width l more (letter_is l Width e)
    go (Some (Part p)) e = no_start OutOfSequence (record { command = Part p; behind = more; is = ap (λ x. x ∷ more) (letter_is l (Part p) e); other = λ x. cc })
    go (Some End) e = no_start OutOfSequence (record { command = End; behind = more; is = ap (λ x. x ∷ more) (letter_is l End e); other = λ x. cc })

-- A later command.

module _ (bytes : List ℕ) (s : Reading) (n : ℕ) (items : List Item) (rest : List ℕ) (f : Follows bytes s n items rest) where
  at_is : length (front_of n items) ≡ s.at
  at_is = front_long n items s f.kept

  whole : length bytes ≡ s.at + length rest
  whole = rest_long bytes (front_of n items) rest s.at f.is at_is

  known : (c : Command) (behind : List ℕ) → rest ≡ command_letter c ∷ behind → turn bytes s ≡ given_command bytes s c
  known c behind e =
      at_command bytes s (Some c) (omega (arith, whole, ap length e))
      (ap command_of (head_is bytes (front_of n items) rest s.at f.is at_is (command_letter c) behind e) ∙ letter_means c)

  use_in : (c : Command) (y : Bool) → has_use n c ≡ y → has_use s.parts.width c ≡ y
  use_in c y e = ap (λ w. has_use w c) f.kept.wide ∙ e

  given_again : (p : PartT) → Given (place_of p) items → in_sequence s (Part p) ≡ false
  given_again p g = and_right (ltb 0 s.at) (not (get_or s.given (place_of p) false)) (ap not (f.kept.marked (place_of p) g))

  part_refused : (p : PartT) (os behind : List ℕ) (why : Reason) → rest ≡ letter_of p ∷ (os ++ behind) → New p items → has_use n (Part p) ≡ true
      → length os ≡ part_operands p → part_fault n p os ≡ Some why → turn bytes s ≡ refused_at s.at why
  part_refused p os behind why is new useful long fault =
      known (Part p) (os ++ behind) is
      ∙ (asked_as bytes s (Part p) true true true (new_in n items s p f.kept new) (use_in (Part p) true useful)
      (lt-ltb (s.at + part_operands p) (length bytes) (omega (arith, whole, ap length is, length-append os behind, long)))
      ∙ (ap (λ x. at_part s p x (part_fault s.parts.width p x)) (operand_is bytes (front_of n items) rest s.at f.is at_is (letter_of p) os behind (part_operands p) is long)
      ∙ ap (at_part s p os) (ap (λ w. part_fault w p os) f.kept.wide ∙ fault)))

  abbrev at_end : Bool → Bool → Result Turn Fault
  at_end t u = ask t Missing s.at (ask u GoesOn (s.at + 1) (Ok (Done s.parts)))

  end_known : (behind : List ℕ) → rest ≡ 90 ∷ behind → turn bytes s ≡ at_end (complete s.parts.width s.given) (eqb (s.at + 1) (length bytes))
  end_known behind is =
      known End behind is
      ∙ asked_as bytes s End true true true (lt-ltb 0 s.at (omega (arith, f.kept.place))) refl
      (lt-ltb (s.at + 0) (length bytes) (omega (arith, whole, ap length is)))

  pub later_refused : (why : Reason) → NoLater n items rest why → turn bytes s ≡ refused_at (told_at why s.at) why
  later_refused NoByte (inl e) = no_byte bytes s (omega (arith, whole, ap length e))
  later_refused NoByte (inr c) =
      known (Part c.part) c.behind c.is
      ∙ asked_as bytes s (Part c.part) true true false (new_in n items s c.part f.kept c.new) (use_in (Part c.part) true c.useful)
      (le-ltb (s.at + part_operands c.part) (length bytes) (omega (arith, whole, ap length c.is, c.short)))
  later_refused NoCommand w =
      at_command bytes s None (omega (arith, whole, ap length w.is))
      (ap command_of (head_is bytes (front_of n items) rest s.at f.is at_is w.byte w.behind w.is) ∙ none_of_letters w.byte w.none)
  later_refused OutOfSequence (inl w) =
      known Width w.behind w.is ∙ no_sequence bytes s Width (ne_eqb s.at 0 (λ e. omega (arith, f.kept.place)))
  later_refused OutOfSequence (inr g) = known (Part g.part) g.behind g.is ∙ no_sequence bytes s (Part g.part) (given_again g.part g.again)
  later_refused NoUse u =
      known (Part u.part) u.behind u.is
      ∙ asked_as bytes s (Part u.part) true false _ (new_in n items s u.part f.kept u.new) (use_in (Part u.part) false u.useless) refl
  later_refused BadWidth w = absurd w
  later_refused TooLarge c =
      part_refused C0 c.operand c.behind TooLarge c.is c.new refl c.long (ap (λ t. cond t None (Some TooLarge)) (le-ltb (number c.operand) (2 ^ n) c.large))
  later_refused (NoOrder p) o =
      part_refused (Order o.name) o.list o.behind (NoOrder p) o.is o.new o.useful o.long
      (ap order_why (sym (first_found (order_size n (index_of o.name)) o.list p o.first)))
  later_refused Missing m = end_known m.behind m.is ∙ ap (λ t. at_end t (eqb (s.at + 1) (length bytes))) (false_from_ne_true (complete s.parts.width s.given) lacks)
    where
      lacks : complete s.parts.width s.given ≡ true → ⊥
      lacks e = not_given m.part items m.lacks (f.kept.marks (place_of m.part) (needed_given s.parts.width s.given e (place_of m.part) (rw f.kept.wide m.needed)))
  later_refused GoesOn g =
      end_known (g.byte ∷ g.behind) g.is
      ∙ (ap (λ t. at_end t (eqb (s.at + 1) (length bytes))) (complete_from s.parts.width s.given all)
      ∙ ap (at_end true) (ne_eqb (s.at + 1) (length bytes) (λ e. omega (arith, whole, ap length g.is))))
    where
      all : (k : ℕ) → Needed s.parts.width k → get_or s.given k false ≡ true
      all k needed = f.kept.marked k (g.all k (subst (λ z. Needed z k) f.kept.wide needed))

-- A later command is at fault, or it is a part that is right and new, or it ends a draft.
pub data Later (n : ℕ) (items : List Item) (rest : List ℕ) : Type 0 where
  no_later : (why : Reason) → NoLater n items rest why → Later n items rest
  goes : (i : Item) (more : List ℕ) → rest ≡ letter_of i.part ∷ (i.operand ++ more) → Right n i → New i.part items → Later n items rest
  ends : rest ≡ 90 ∷ [] → ((k : ℕ) → Needed n k → Given k items) → Later n items rest

-- the operand of a part that is new and of use
module _ (n : ℕ) (items : List Item) (rest os behind : List ℕ) where
  by_list : (k : OrderName) → rest ≡ letter_of (Order k) ∷ (os ++ behind) → New (Order k) items → has_use n (Part (Order k)) ≡ true → length os ≡ 64 → Later n items rest
  by_list k is new useful long = go (first_fault (order_size n (index_of k)) os (length os) 0) refl
    where
      go : (o : Option ℕ) → first_fault (order_size n (index_of k)) os (length os) 0 ≡ o → Later n items rest
      go None e = goes (record { part = Order k; operand = os }) behind is (record { useful = useful; long = long; fits = sound_from_none (order_size n (index_of k)) os e }) new
      go (Some p) e = no_later (NoOrder p) (record {
        name = k;
        list = os;
        behind = behind;
        is = is;
        new = new;
        useful = useful;
        long = long;
        first = first_means (order_size n (index_of k)) os p e;
      })

  by_operand : (p : PartT) → rest ≡ letter_of p ∷ (os ++ behind) → New p items → has_use n (Part p) ≡ true → length os ≡ part_operands p → Later n items rest
  by_operand (Flow w) is new useful long = goes (record { part = Flow w; operand = os }) behind is (record { useful = useful; long = long; fits = tt }) new
  by_operand C1 is new useful long = goes (record { part = C1; operand = os }) behind is (record { useful = useful; long = long; fits = tt }) new
  by_operand (Order k) is new useful long = by_list k is new useful long
  by_operand C0 is new useful long = go (cases_lt (number os) (2 ^ n))
    where
      go : (number os < 2 ^ n) ⊎ (2 ^ n ≤ number os) → Later n items rest
      go (inl h) = goes (record { part = C0; operand = os }) behind is (record { useful = useful; long = long; fits = h }) new
      go (inr h) = no_later TooLarge (record { operand = os; behind = behind; is = is; new = new; long = long; large = h })

-- a part
at_letter_of : (n : ℕ) (items : List Item) (l : ℕ) (more : List ℕ) (p : PartT) → l ≡ letter_of p → Later n items (l ∷ more)
at_letter_of n items l more p e = go (new_or_given p items) (cases_Bool (has_use n (Part p))) (cases_lt (length more) (part_operands p))
  where
    is : l ∷ more ≡ letter_of p ∷ more
    is = ap (λ x. x ∷ more) e

    go : New p items ⊎ Given (place_of p) items → (has_use n (Part p) ≡ true) ⊎ (has_use n (Part p) ≡ false)
        → (length more < part_operands p) ⊎ (part_operands p ≤ length more) → Later n items (l ∷ more)
    go (inr g) u h = no_later OutOfSequence (inr (record { part = p; behind = more; is = is; again = g }))
    go (inl new) (inr none) h = no_later NoUse (record { part = p; behind = more; is = is; new = new; useless = none })
    go (inl new) (inl useful) (inl h) = no_later NoByte (inr (record { part = p; behind = more; is = is; new = new; useful = useful; short = h }))
    go (inl new) (inl useful) (inr h) =
        by_operand n items (l ∷ more) (take (part_operands p) more) (drop (part_operands p) more) p
        (is ∙ ap (λ x. letter_of p ∷ x) (sym (take-append-drop (part_operands p) more))) new useful (length-take-le (part_operands p) more h)

-- what is needed was given, or a part lacks
record Lacks (n : ℕ) (items : List Item) : Type 0 where
  part : PartT
  needed : Needed n (place_of part)
  new : New part items

part_lacks : (n : ℕ) (items : List Item) (p : PartT) → (Needed n (place_of p) → Given (place_of p) items) ⊎ Lacks n items
part_lacks n items p = go (new_or_given p items) (cases_Bool (wide_place (place_of p))) (cases_lt 32 n)
  where
    go : New p items ⊎ Given (place_of p) items → (wide_place (place_of p) ≡ true) ⊎ (wide_place (place_of p) ≡ false) → (32 < n) ⊎ (n ≤ 32)
        → (Needed n (place_of p) → Given (place_of p) items) ⊎ Lacks n items
    go (inr g) w h = inl (λ needed. g)
    go (inl new) (inr w) h = inr (record { part = p; needed = (place_small p, λ e. cc); new = new })
    go (inl new) (inl w) (inl h) = inr (record { part = p; needed = (place_small p, λ e. h); new = new })
    go (inl new) (inl w) (inr h) = inl (λ needed. absurd (omega (arith, needed.1 w, h)))

part_of : (k : ℕ) → k < 9 → (p : PartT) × (place_of p ≡ k)
part_of =
    nine_cases (λ k. (p : PartT) × (place_of p ≡ k)) (Flow Flex, refl) (C0, refl) (C1, refl) (Order R0, refl) (Order R1, refl) (Order R2, refl) (Order R3, refl)
    (Order R4, refl) (Order R5, refl)

lacks_below : (n : ℕ) (items : List Item) (m : ℕ) → m ≤ 9 → ((k : ℕ) → k < m → Needed n k → Given k items) ⊎ Lacks n items
lacks_below n items zero h = inl (λ k a needed. absurd (omega arith))
lacks_below n items (suc m) h = go (lacks_below n items m (omega arith)) (part_of m (omega arith)) (λ p. part_lacks n items p)
  where
    go : ((k : ℕ) → k < m → Needed n k → Given k items) ⊎ Lacks n items → (p : PartT) × (place_of p ≡ m)
        → ((p : PartT) → (Needed n (place_of p) → Given (place_of p) items) ⊎ Lacks n items) → ((k : ℕ) → k < suc m → Needed n k → Given k items) ⊎ Lacks n items
    go (inr lacks) p one = inr lacks
    go (inl all) (p, at) one = last (one p)
      where
        here : (Needed n (place_of p) → Given (place_of p) items) → (k : ℕ) → (k ≡ m) ⊎ (k ≡ m → ⊥) → k < suc m → Needed n k → Given k items
        here given k (inl e) a = let same : place_of p ≡ k = at ∙ sym e in subst (λ z. Needed n z → Given z items) same given
        here given k (inr ne) a = all k (omega arith)

        last : (Needed n (place_of p) → Given (place_of p) items) ⊎ Lacks n items → ((k : ℕ) → k < suc m → Needed n k → Given k items) ⊎ Lacks n items
        last (inr lacks) = inr lacks
        last (inl given) = inl (λ k a. here given k (cases_eq k m) a)

-- Z
at_z : (n : ℕ) (items : List Item) (l : ℕ) (more : List ℕ) → l ≡ 90 → Later n items (l ∷ more)
at_z n items l more e = go more (lacks_below n items 9 (omega arith))
  where
    is : (m : List ℕ) → l ∷ m ≡ 90 ∷ m
    is m = ap (λ x. x ∷ m) e

    go : (m : List ℕ) → ((k : ℕ) → k < 9 → Needed n k → Given k items) ⊎ Lacks n items → Later n items (l ∷ m)
    go m (inr lacks) = no_later Missing (record { part = lacks.part; behind = m; is = is m; needed = lacks.needed; lacks = lacks.new })
    go [] (inl all) = ends (is []) (λ k needed. all k needed.0 needed)
    go (b ∷ behind) (inl all) = no_later GoesOn (record { byte = b; behind = behind; is = is (b ∷ behind); all = λ k needed. all k needed.0 needed })

pub leads : (n : ℕ) (items : List Item) (rest : List ℕ) → Later n items rest
leads n items [] = no_later NoByte (inl refl)
leads n items (l ∷ more) = go (command_of l) refl
  where
    go : (o : Option Command) → command_of l ≡ o → Later n items (l ∷ more)
    go None e = no_later NoCommand (record { byte = l; behind = more; is = refl; none = letter_of_none l e })
    go (Some Width) e = no_later OutOfSequence (inl (record { behind = more; is = ap (λ x. x ∷ more) (letter_is l Width e) }))
    go (Some (Part p)) e = at_letter_of n items l more p (letter_is l (Part p) e)
    go (Some End) e = at_z n items l more (letter_is l End e)
