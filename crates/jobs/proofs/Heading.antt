-- A head that is read line by line is what its lines say.
use Rattle.std.proofs.Common.{◌≡◌, ℕ, suc, ◌+◌, ◌-◌, ◌^◌, ◌<◌, ◌≤◌, min, Bool, true, false, cond, List, [], ◌∷◌, ◌++◌, Option, Some, None, Result, Ok, Err, MatchResult, length, take, drop, get_or, refl, ap, sym, subst, ◌∙◌, append-nil, inl, inr, arith}
use Rattle.std.proofs.Math.Seq.{drop-cons}
use Rattle.std.proofs.lemmas.List.{take_all, drop_all}
use Rattle.std.proofs.lemmas.List.Elements.{filter_map-append}
use Rattle.std.proofs.lemmas.List.Splits.{slice_split-cons_yes, slice_split-cons_no, length-slice_split}
use Rattle.std.proofs.lemmas.List.Sums.{count_by-le-length}
use Rattle.std.proofs.lemmas.Slice.Eq.{bytes_eq-Decides}
use Rattle.std.specs.List.{AllByRecursion, concat, cons_option, filter, slice_split, onto_first}
use Rattle.std.specs.Option.{is_some}
use Rattle.std.specs.Prelude.{slice_index, ◌==◌, if◌then◌else◌}
use Rattle.std.specs.Str.Lines.{lines, lines_of_parts}
use Rattle.std.specs.declared.alloc.Global.{Global}
use Rattle.std.specs.declared.vec.Vec.{Vec}
use Rattle.jobs.proofs.Reading.{inside_grown}
use Rattle.jobs.proofs.Squeezed.{squeezed_nil, squeezed_cons}
use Rattle.jobs.proofs.Wording.{words_are, words_space, words_letter, no_words, apart_letter}
use Rattle.jobs.specs.Heads.{behind, given, is_given, SpellsPile, SpellsRoles, Once, OfHead, RightSoFar, AllFound, Over, Whole, HeadFrom, Lacks, FirstWrong, LineWrong, Spoilt, Taken, has_line}
use Rattle.jobs.specs.Parsed.{Grown, Said, Spelt, texts}
use Rattle.jobs.specs.Places.{blamed, first_place, line_start, place_from}
use Rattle.jobs.specs.Signs.{is_space, not_empty, spaces_first, squeezed, words, WordOver, Apart}
use Rattle.jobs.specs.Steps.{Begins, IsBlank, IsRow, head_text}
use Rattle.jobs.specs.declared.job.Found.{Found}
use Rattle.jobs.specs.declared.job.Head.{Head}
use Rattle.jobs.specs.declared.place.BadText.{BadText}
use Rattle.jobs.specs.declared.place.HeadWord.{HeadWord}
use Rattle.jobs.specs.declared.place.Place.{Place}
use Rattle.jobs.specs.declared.place.HeadWord.TheVariants.{Yarn, Hands, Roles, Records}
use Rattle.jobs.specs.declared.place.Wrong.TheVariants.{MissingLine}
use Rattle.jobs.specs.declared.written.Written.{Written}
use Rattle.jobs.specs.declared.written.Written.TheVariants.{Clear, Plus, Cipher, Chain', Turned', Narrowed'}

-- ---- words, put together

concat_kept : (xs : List (List ℕ)) → concat (filter not_empty xs) ≡ concat xs
concat_kept [] = refl
concat_kept ([] ∷ xs) = concat_kept xs
concat_kept ((b ∷ x) ∷ xs) = ap (λ z. (b ∷ x) ++ z) (concat_kept xs)

concat_onto : (b : ℕ) (xs : List (List ℕ)) → concat (onto_first b xs) ≡ b ∷ concat xs
concat_onto b [] = refl
concat_onto b (x ∷ xs) = refl

concat_parts_at : (b : ℕ) (s : List ℕ) (v : Bool) → is_space b ≡ v → concat (slice_split is_space s) ≡ squeezed s → concat (slice_split is_space (b ∷ s)) ≡ squeezed (b ∷ s)
concat_parts_at b s true i h = ap concat (slice_split-cons_yes is_space b s i) ∙ h ∙ sym (squeezed_cons b s true i)
concat_parts_at b s false i h =
    ap concat (slice_split-cons_no is_space b s i) ∙ concat_onto b (slice_split is_space s) ∙ ap (λ z. b ∷ z) h ∙ sym (squeezed_cons b s false i)

concat_parts : (s : List ℕ) → concat (slice_split is_space s) ≡ squeezed s
concat_parts [] = sym squeezed_nil
concat_parts (b ∷ s) = concat_parts_at b s (is_space b) refl (concat_parts s)

concat_words : (s : List ℕ) → concat (words s) ≡ squeezed s
concat_words s = ap concat (words_are s) ∙ concat_kept (slice_split is_space s) ∙ concat_parts s

pub said_words : (names : List (List ℕ)) (n : ℕ) (s : List ℕ) (w : Written) → Said names n (squeezed s) w → Said names n (concat (words s)) w
said_words names n s w h = subst (λ z. Said names n z w) (sym (concat_words s)) h

-- A pile begins with a letter, so what stands before it is a space.
pub pile_apart : (names : List (List ℕ)) (s : List ℕ) (w : Written) → WordOver s → Spelt names (squeezed s) w → Apart s
pile_apart names s (Clear t) over h = apart_letter s _ _ over h.is refl
pile_apart names s (Plus t k) over h = apart_letter s _ _ over h.is refl
pile_apart names s (Cipher d k) over h = apart_letter s _ _ over h.is refl
pile_apart names s (Chain' p a q b) over h = apart_letter s _ _ over h.is refl
pile_apart names s (Turned' p below) over h = apart_letter s _ _ over h.is refl
pile_apart names s (Narrowed' p below to) over h = apart_letter s _ _ over h.is refl

-- ---- what one line more gives

comment_at : (b : ℕ) (s : List ℕ) (v : Bool) → is_space b ≡ v → (slice_index (squeezed s) 0 ≡ 35 → (v : List ℕ) × (vs : List (List ℕ)) × (words s ≡ (35 ∷ v) ∷ vs))
    → slice_index (squeezed (b ∷ s)) 0 ≡ 35 → (v : List ℕ) × (vs : List (List ℕ)) × (words (b ∷ s) ≡ (35 ∷ v) ∷ vs)
comment_at b s true i rest e =
    let h = rest (ap (λ z. slice_index z 0) (sym (squeezed_cons b s true i)) ∙ e) in
    (h.0, h.1, words_space b s i ∙ h.2)
comment_at b s false i rest e =
    let h = words_letter b s i in
    let hash : b ≡ 35 = ap (λ z. slice_index z 0) (sym (squeezed_cons b s false i)) ∙ e in
    (h.0, h.1, h.2 ∙ ap (λ z. (z ∷ h.0) ∷ h.1) hash)

comment_words : (s : List ℕ) → slice_index (squeezed s) 0 ≡ 35 → (v : List ℕ) × (vs : List (List ℕ)) × (words s ≡ (35 ∷ v) ∷ vs)
comment_words [] e = let k : slice_index [] 0 ≡ 35 = ap (λ z. slice_index z 0) (sym squeezed_nil) ∙ e in cc
comment_words (b ∷ s) e = comment_at b s (is_space b) refl (λ k. comment_words s k) e

comment_none : (h : HeadWord) (v : List ℕ) (vs : List (List ℕ)) → behind (head_text h) ((35 ∷ v) ∷ vs) ≡ None
comment_none Yarn v vs = refl
comment_none Hands v vs = refl
comment_none Roles v vs = refl
comment_none Records v vs = refl

blank_none : (h : HeadWord) (line : List ℕ) → IsBlank line → behind (head_text h) (words line) ≡ None
blank_none h line (inl e) = ap (behind (head_text h)) (no_words line e)
blank_none h line (inr e) = let k = comment_words line e in ap (behind (head_text h)) k.2 ∙ comment_none h k.0 k.1

given_none : (h : HeadWord) (ls : List (List ℕ)) (line : List ℕ) → behind (head_text h) (words line) ≡ None → given h (ls ++ (line ∷ [])) ≡ given h ls
given_none h ls line e =
    filter_map-append (λ l. behind (head_text h) (words l)) ls (line ∷ []) ∙ ap (λ z. given h ls ++ cons_option z []) e ∙ append-nil (given h ls)

given_some : (h : HeadWord) (ls : List (List ℕ)) (line : List ℕ) (ws : List (List ℕ)) → words line ≡ head_text h ∷ ws → given h (ls ++ (line ∷ [])) ≡ given h ls ++ (ws ∷ [])
given_some h ls line ws e =
    let same : behind (head_text h) (words line) ≡ Some ws =
    ap (behind (head_text h)) e ∙ ap (λ z. cond z (Some ws) None) ((bytes_eq-Decides (head_text h) (head_text h)).1 refl) in
    filter_map-append (λ l. behind (head_text h) (words l)) ls (line ∷ []) ∙ ap (λ z. given h ls ++ cons_option z []) same

once_kept : {T : Type 0} (says : List (List ℕ) → T → Type 0) (h : HeadWord) (ls : List (List ℕ)) (line : List ℕ) (o : Option T)
    → behind (head_text h) (words line) ≡ None → Once says (given h ls) o → Once says (given h (ls ++ (line ∷ []))) o
once_kept says h ls line o e p = subst (λ z. Once says z o) (sym (given_none h ls line e)) p

once_new : {T : Type 0} (says : List (List ℕ) → T → Type 0) (h : HeadWord) (ls : List (List ℕ)) (line : List ℕ) (ws : List (List ℕ)) (o : Option T) (x : T)
    → Once says (given h ls) o → is_some o ≡ false → words line ≡ head_text h ∷ ws → says ws x → Once says (given h (ls ++ (line ∷ []))) (Some x)
once_new says h ls line ws None x p absent e s = (ws, given_some h ls line ws e ∙ ap (λ z. z ++ (ws ∷ [])) p, s)
once_new says h ls line ws (Some y) x p absent e s = cc

once_grown : (xs ys : List (List ℕ)) (g : List (List (List ℕ))) (o : Option Written) → Grown xs ys → Once (SpellsPile xs) g o → Once (SpellsPile ys) g o
once_grown xs ys g None more p = p
once_grown xs ys g (Some w) more (ws, is, said) = (
  ws,
  is,
  record {
    spelt = record { within = said.spelt.within; is = said.spelt.is; inside = inside_grown xs ys said.spelt.within w more said.spelt.inside };
    low = said.low;
  },
)

all_line : (ls : List (List ℕ)) (line : List ℕ) → AllByRecursion OfHead ls → OfHead line → AllByRecursion OfHead (ls ++ (line ∷ []))
all_line [] line h k = (k, tt)
all_line (l ∷ ls) line h k = (h.0, all_line ls line h.1 k)

pub good_blank : (ls : List (List ℕ)) (line : List ℕ) (f : Found) → IsBlank line → RightSoFar ls f → RightSoFar (ls ++ (line ∷ [])) f
good_blank ls line f blank g = record {
  yarn = once_kept (SpellsPile (texts f.files)) Yarn ls line f.yarn (blank_none Yarn line blank) g.yarn;
  hands = once_kept (SpellsPile (texts f.files)) Hands ls line f.hands (blank_none Hands line blank) g.hands;
  roles = once_kept SpellsRoles Roles ls line f.roles (blank_none Roles line blank) g.roles;
  records = once_kept IsRow Records ls line f.records (blank_none Records line blank) g.records;
  only = all_line ls line g.only (inl blank);
}

pub good_yarn : (ls : List (List ℕ)) (line : List ℕ) (f n : Found) (ws : List (List ℕ)) (w : Written) → RightSoFar ls f → is_some f.yarn ≡ false
    → words line ≡ head_text Yarn ∷ ws → Begins (head_text Yarn) line → Grown (texts f.files) (texts n.files) → SpellsPile (texts n.files) ws w
    → n.yarn ≡ Some w → n.hands ≡ f.hands → n.roles ≡ f.roles → n.records ≡ f.records → RightSoFar (ls ++ (line ∷ [])) n
good_yarn ls line f n ws w g absent said begins more s yarn hands roles records = record {
  yarn = rw yarn (once_new (SpellsPile (texts n.files)) Yarn ls line ws f.yarn w (once_grown _ _ _ f.yarn more g.yarn) absent said s);
  hands = rw hands (once_kept (SpellsPile (texts n.files)) Hands ls line f.hands (ap (behind (head_text Hands)) said) (once_grown _ _ _ f.hands more g.hands));
  roles = rw roles (once_kept SpellsRoles Roles ls line f.roles (ap (behind (head_text Roles)) said) g.roles);
  records = rw records (once_kept IsRow Records ls line f.records (ap (behind (head_text Records)) said) g.records);
  only = all_line ls line g.only (inr (Yarn, begins));
}

pub good_hands : (ls : List (List ℕ)) (line : List ℕ) (f n : Found) (ws : List (List ℕ)) (w : Written) → RightSoFar ls f → is_some f.hands ≡ false
    → words line ≡ head_text Hands ∷ ws → Begins (head_text Hands) line → Grown (texts f.files) (texts n.files) → SpellsPile (texts n.files) ws w
    → n.yarn ≡ f.yarn → n.hands ≡ Some w → n.roles ≡ f.roles → n.records ≡ f.records → RightSoFar (ls ++ (line ∷ [])) n
good_hands ls line f n ws w g absent said begins more s yarn hands roles records = record {
  yarn = rw yarn (once_kept (SpellsPile (texts n.files)) Yarn ls line f.yarn (ap (behind (head_text Yarn)) said) (once_grown _ _ _ f.yarn more g.yarn));
  hands = rw hands (once_new (SpellsPile (texts n.files)) Hands ls line ws f.hands w (once_grown _ _ _ f.hands more g.hands) absent said s);
  roles = rw roles (once_kept SpellsRoles Roles ls line f.roles (ap (behind (head_text Roles)) said) g.roles);
  records = rw records (once_kept IsRow Records ls line f.records (ap (behind (head_text Records)) said) g.records);
  only = all_line ls line g.only (inr (Hands, begins));
}

pub good_roles : (ls : List (List ℕ)) (line : List ℕ) (f n : Found) (ws : List (List ℕ)) (v : Vec ℕ Global) → RightSoFar ls f → is_some f.roles ≡ false
    → words line ≡ head_text Roles ∷ ws → Begins (head_text Roles) line → SpellsRoles ws v
    → n.files ≡ f.files → n.yarn ≡ f.yarn → n.hands ≡ f.hands → n.roles ≡ Some v → n.records ≡ f.records → RightSoFar (ls ++ (line ∷ [])) n
good_roles ls line f n ws v g absent said begins s files yarn hands roles records = record {
  yarn = rw (files, yarn) (once_kept (SpellsPile (texts f.files)) Yarn ls line f.yarn (ap (behind (head_text Yarn)) said) g.yarn);
  hands = rw (files, hands) (once_kept (SpellsPile (texts f.files)) Hands ls line f.hands (ap (behind (head_text Hands)) said) g.hands);
  roles = rw roles (once_new SpellsRoles Roles ls line ws f.roles v g.roles absent said s);
  records = rw records (once_kept IsRow Records ls line f.records (ap (behind (head_text Records)) said) g.records);
  only = all_line ls line g.only (inr (Roles, begins));
}

pub good_records : (ls : List (List ℕ)) (line : List ℕ) (f n : Found) (ws : List (List ℕ)) (k : ℕ) → RightSoFar ls f → is_some f.records ≡ false
    → words line ≡ head_text Records ∷ ws → Begins (head_text Records) line → IsRow ws k
    → n.files ≡ f.files → n.yarn ≡ f.yarn → n.hands ≡ f.hands → n.roles ≡ f.roles → n.records ≡ Some k → RightSoFar (ls ++ (line ∷ [])) n
good_records ls line f n ws k g absent said begins s files yarn hands roles records = record {
  yarn = rw (files, yarn) (once_kept (SpellsPile (texts f.files)) Yarn ls line f.yarn (ap (behind (head_text Yarn)) said) g.yarn);
  hands = rw (files, hands) (once_kept (SpellsPile (texts f.files)) Hands ls line f.hands (ap (behind (head_text Hands)) said) g.hands);
  roles = rw roles (once_kept SpellsRoles Roles ls line f.roles (ap (behind (head_text Roles)) said) g.roles);
  records = rw records (once_new IsRow Records ls line ws f.records k g.records absent said s);
  only = all_line ls line g.only (inr (Records, begins));
}

-- ---- a head that is whole

pub whole_from : (ls : List (List ℕ)) (n : ℕ) (f : Found) (h : Head) → RightSoFar (take n ls) f → AllFound f n h → n ≤ length ls → Over (drop n ls) → Whole ls h
whole_from ls n f h g is low over =
    let same : n ≡ h.lines = sym is.lines in
    let files : texts f.files ≡ texts h.files = ap texts (sym is.files) in
    record {
      yarn = subst (λ k. Once (SpellsPile (texts h.files)) (given Yarn (take k ls)) (Some h.yarn)) same
          (subst (λ z. Once (SpellsPile z) (given Yarn (take n ls)) (Some h.yarn)) files (rw is.yarn at g.yarn));
      hands = subst (λ k. Once (SpellsPile (texts h.files)) (given Hands (take k ls)) (Some h.hands)) same
          (subst (λ z. Once (SpellsPile z) (given Hands (take n ls)) (Some h.hands)) files (rw is.hands at g.hands));
      roles = subst (λ k. Once SpellsRoles (given Roles (take k ls)) (Some h.roles)) same (rw is.roles at g.roles);
      records = subst (λ k. Once IsRow (given Records (take k ls)) (Some h.records)) same (rw is.records at g.records);
      only = subst (λ k. AllByRecursion OfHead (take k ls)) same g.only;
      long = rw is.lines low;
      over = subst (λ k. Over (drop k ls)) same over;
    }

-- ---- a head that is none

once_had : {T : Type 0} (says : List (List ℕ) → T → Type 0) (g : List (List (List ℕ))) (o : Option T) → Once says g o → not_empty g ≡ is_some o
once_had says g None p = ap not_empty p
once_had says g (Some x) p = ap not_empty p.1

had : (ls : List (List ℕ)) (f : Found) → RightSoFar ls f → (h : HeadWord) → is_given ls h ≡ has_line f h
had ls f g Yarn = once_had (SpellsPile (texts f.files)) (given Yarn ls) f.yarn g.yarn
had ls f g Hands = once_had (SpellsPile (texts f.files)) (given Hands ls) f.hands g.hands
had ls f g Roles = once_had SpellsRoles (given Roles ls) f.roles g.roles
had ls f g Records = once_had IsRow (given Records ls) f.records g.records

none_of : (g : List (List (List ℕ))) → not_empty g ≡ false → g ≡ []
none_of [] e = refl
none_of (ws ∷ more) e = cc

pub spoilt_lacking : (ls : List (List ℕ)) (n : ℕ) (f : Found) (h : HeadWord) (e : BadText) → RightSoFar (take n ls) f → Over (drop n ls) → has_line f h ≡ false
    → e ≡ blamed (line_start (n + 1)) (MissingLine h) → Spoilt ls e
spoilt_lacking ls n f h e g over absent is =
    let line : e.place.line ≡ n + 1 = ap (λ (z : BadText). z.place.line) is in
    let column : e.place.column ≡ 1 = ap (λ (z : BadText). z.place.column) is in
    let same : n ≡ e.place.line - 1 = omega (arith, line) in
    let lacks : Lacks (take n ls) (drop n ls) e =
    record {
      word = h;
      is = is ∙ ap (λ k. blamed (line_start k) (MissingLine h)) (sym line);
      none = none_of (given h (take n ls)) (had (take n ls) f g h ∙ absent);
      over = over;
    } in
    record {
      counted = record { line = omega (arith, line); column = omega (arith, column) };
      before = (f, subst (λ k. RightSoFar (take k ls) f) same g);
      why = inl (subst (λ k. Lacks (take k ls) (drop k ls) e) same lacks);
    }

wrong_given : (line : List ℕ) (number : ℕ) (old new : HeadWord → Bool) (e : BadText) → ((h : HeadWord) → new h ≡ old h) → LineWrong line number old e → LineWrong line number new e
wrong_given line number old new e same (inl none) = inl none
wrong_given line number old new e same (inr (speaks, (h, b, t))) = inr (speaks, (h, b, (λ k. t.0 (sym (same h) ∙ k), λ k. t.1 (sym (same h) ∙ k))))

counted_at : (start : Place) (at : ℕ) (p : Place) → p ≡ place_from start at → 1 ≤ start.column → 1 ≤ p.column
counted_at start at p e low = let column : p.column ≡ min (start.column + at) (2 ^ 64 - 1) = ap (λ (z : Place). z.column) e in omega (arith, column)

-- A line that is wrong is told as itself.
told_itself : (line : List ℕ) (number : ℕ) (had : HeadWord → Bool) (e : BadText) → LineWrong line number had e → (e.place.line ≡ number) × (1 ≤ e.place.column)
told_itself line number had e (inl none) =
    let place : e.place ≡ first_place line number = ap (λ (z : BadText). z.place) none.is in
    (ap (λ (z : Place). z.line) place, counted_at (line_start number) (spaces_first line) e.place place (omega arith))
told_itself line number had e (inr (speaks, (h, b, t))) = go (had h) refl
  where
    go : (v : Bool) → had h ≡ v → (e.place.line ≡ number) × (1 ≤ e.place.column)
    go true k =
        let place : e.place ≡ first_place line number = ap (λ (z : BadText). z.place) (t.0 k) in
        (ap (λ (z : Place). z.line) place, counted_at (line_start number) (spaces_first line) e.place place (omega arith))
    go false k =
        let wrong = t.1 k in
        (ap (λ (z : Place). z.line) wrong.place, counted_at (line_start number) wrong.at e.place wrong.place (omega arith))

pub spoilt_line : (ls : List (List ℕ)) (n : ℕ) (f : Found) (line : List ℕ) (e : BadText) → RightSoFar (take n ls) f → n < length ls → line ≡ get_or ls n line
    → LineWrong line (n + 1) (has_line f) e → Spoilt ls e
spoilt_line ls n f line e g low is wrong =
    let told = told_itself line (n + 1) (has_line f) e wrong in
    let same : n ≡ e.place.line - 1 = omega (arith, told.0) in
    let next : line ∷ drop (suc n) ls ≡ drop n ls = ap (λ z. z ∷ drop (suc n) ls) is ∙ sym (drop-cons ls n line low) in
    let itself : LineWrong line e.place.line (has_line f) e = subst (λ k. LineWrong line k (has_line f) e) (sym told.0) wrong in
    let here : FirstWrong (take n ls) (line ∷ drop (suc n) ls) e = wrong_given line e.place.line (has_line f) (is_given (take n ls)) e (had (take n ls) f g) itself in
    let there : FirstWrong (take n ls) (drop n ls) e = subst (λ z. FirstWrong (take n ls) z e) next here in
    record {
      counted = record { line = omega (arith, told.0); column = told.1 };
      before = (f, subst (λ k. RightSoFar (take k ls) f) same g);
      why = inr (subst (λ k. FirstWrong (take k ls) (drop k ls) e) same there);
    }

pub line_spoilt : (all seen : List (List ℕ)) (n k : ℕ) (f : Found) (line : List ℕ) (e : BadText) → RightSoFar seen f → n ≡ k → seen ≡ take k all
    → (k < length all) × (line ≡ get_or all k line) → LineWrong line (n + 1) (has_line f) e → Spoilt all e
line_spoilt all seen n k f line e g count is turn bad =
    spoilt_line all k f line e (subst (λ z. RightSoFar z f) is g) turn.0 turn.1 (subst (λ m. LineWrong line (m + 1) (has_line f) e) count bad)

-- What is answered at the end of a head, or where a line is missing from it.
abbrev pub HeadOf : List (List ℕ) → Result Head BadText → Type 0
HeadOf ls r = MatchResult r (λ h. Whole ls h) (λ e. Spoilt ls e)

head_at : (ls : List (List ℕ)) (n : ℕ) (f : Found) (r : Result Head BadText) → RightSoFar (take n ls) f → n ≤ length ls → Over (drop n ls) → HeadFrom f n r → HeadOf ls r
head_at ls n f (Ok h) g low over is = whole_from ls n f h g is low over
head_at ls n f (Err e) g low over (w, lacks, is) = spoilt_lacking ls n f w e g over lacks is

pub head_step : (all seen : List (List ℕ)) (n k : ℕ) (f g : Found) (line : List ℕ) (r : Result Head BadText) → RightSoFar seen f → n ≡ k → seen ≡ take k all
    → (k < length all) × (line ≡ get_or all k line) → Taken line f g true → HeadFrom g n r → HeadOf all r
head_step all seen n k f g line r good count is turn taken h =
    let next : line ∷ drop (suc k) all ≡ drop k all = ap (λ z. z ∷ drop (suc k) all) turn.1 ∙ sym (drop-cons all k line turn.0) in
    let over : Over (line ∷ drop (suc k) all) = taken.1 in
    let before : RightSoFar (take k all) g = subst (λ z. RightSoFar (take k all) z) (sym taken.0) (subst (λ z. RightSoFar z f) is good) in
    let low : k ≤ length all = omega (arith, turn.0) in
    head_at all k g r before low (subst Over next over) (subst (λ m. HeadFrom g m r) count h)

pub head_end : (all seen : List (List ℕ)) (n k : ℕ) (f : Found) (r : Result Head BadText) → RightSoFar seen f → n ≡ k → (seen ≡ all) × (k ≡ length all) → HeadFrom f n r
    → HeadOf all r
head_end all seen n k f r good count end h =
    let low : length all ≤ k = omega (arith, end.1) in
    let before : RightSoFar (take k all) f = subst (λ z. RightSoFar z f) (end.0 ∙ sym (take_all k all low)) good in
    head_at all k f r before (omega (arith, end.1)) (subst Over (sym (drop_all k all low)) tt) (subst (λ m. HeadFrom f m r) count h)

-- ---- how many lines a text has

last_few : (b : Bool) (x : List ℕ) → length (if b then [] else (x ∷ [])) ≤ 1
last_few true x = omega arith
last_few false x = omega arith

parts_few : (xs : List (List ℕ)) → length (lines_of_parts xs) ≤ length xs
parts_few [] = omega arith
parts_few (x ∷ []) = last_few (length x == 0) x
parts_few (x ∷ y ∷ more) = let k : length (lines_of_parts (y ∷ more)) ≤ length (y ∷ more) = parts_few (y ∷ more) in omega (arith, k)

pub lines_few : (bs : List ℕ) → length (lines bs) ≤ length bs + 1
lines_few bs =
    let p = λ (b : ℕ). b == 10 in
    omega (arith, parts_few (slice_split p bs), length-slice_split p bs, count_by-le-length p bs)
