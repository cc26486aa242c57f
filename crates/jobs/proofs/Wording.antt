-- Texts as their words.
use Rattle.std.proofs.Common.{◌≡◌, ℕ, ◌+◌, ◌-◌, ◌<◌, ◌≤◌, ◌==◌, ◌⊎◌, ◌||◌, Bool, true, false, List, [], ◌∷◌, ◌++◌, length, take, drop, get_or, refl, ap, sym, subst, ◌∙◌, append-nil, add-one, inl, inr, arith}
use Rattle.std.proofs.Math.Seq.{take-suc, drop-length}
use Rattle.std.proofs.lemmas.Bool.{eqb-true, eqb-false}
use Rattle.std.proofs.lemmas.List.{length-drop}
use Rattle.std.proofs.lemmas.List.Splits.{slice_split-cons_yes, slice_split-cons_no}
use Rattle.std.specs.List.{AllByRecursion, filter, slice_split, onto_first}
use Rattle.std.specs.Prelude.{slice_index}
use Rattle.jobs.proofs.Squeezed.{squeezed_cons, from_next}
use Rattle.jobs.proofs.Faults.{word_between}
use Rattle.jobs.specs.Places.{After, NextWord, past, left_of, rest_of, words_left}
use Rattle.jobs.specs.Signs.{is_space, ends_word, not_empty, squeezed, words, WordOver, Flush, Apart}
use Rattle.jobs.specs.Steps.{Operands, Speaks, Unknown, StepSaid, WordRead, step_text, word_of, word_text}
use Rattle.jobs.specs.declared.cursor.Cursor.{Cursor}
use Rattle.jobs.specs.declared.job.LineWord.{LineWord}
use Rattle.jobs.specs.declared.job.LineWord.TheVariants.{Head as HeadLine, Step as StepLine}
use Rattle.jobs.specs.declared.job.Step.{Step}
use Rattle.jobs.specs.declared.job.StepWord.{StepWord}
use Rattle.jobs.specs.declared.job.StepWord.TheVariants as word
use Rattle.jobs.specs.declared.job.WordLine.{WordLine}
use Rattle.jobs.specs.declared.place.HeadWord.TheVariants as head

abbrev parts : List ℕ → List (List ℕ)
parts s = slice_split is_space s

pub words_are : (s : List ℕ) → words s ≡ filter not_empty (parts s)
unfolding words
words_are s = refl

pub words_space : (b : ℕ) (s : List ℕ) → is_space b ≡ true → words (b ∷ s) ≡ words s
words_space b s e = words_are (b ∷ s) ∙ ap (filter not_empty) (slice_split-cons_yes is_space b s e) ∙ sym (words_are s)

-- a space at i
pub past_gap : (bs : List ℕ) (i : ℕ) → i < length bs → is_space (get_or bs i 0) ≡ true → words (drop (i + 1) bs) ≡ words (drop i bs)
past_gap bs i low e = sym (ap words (from_next bs i low) ∙ words_space (get_or bs i 0) (drop (i + 1) bs) e)

abbrev NoSpace : ℕ → Type 0
NoSpace b = is_space b ≡ false

split_last : (w : List ℕ) → AllByRecursion (λ b. is_space b ≡ false) w → parts w ≡ w ∷ []
split_last [] h = refl
split_last (b ∷ w) h = slice_split-cons_no is_space b w h.0 ∙ ap (onto_first b) (split_last w h.1)

split_next : (w : List ℕ) (y : ℕ) (ys : List ℕ) → AllByRecursion (λ b. is_space b ≡ false) w → is_space y ≡ true → parts (w ++ (y ∷ ys)) ≡ w ∷ parts ys
split_next [] y ys h e = slice_split-cons_yes is_space y ys e
split_next (b ∷ w) y ys h e = slice_split-cons_no is_space b (w ++ (y ∷ ys)) h.0 ∙ ap (onto_first b) (split_next w y ys h.1 e)

words_nil : words [] ≡ []
words_nil = words_are []

kept : (w : List ℕ) (ws : List (List ℕ)) → 0 < length w → filter not_empty (w ∷ ws) ≡ w ∷ filter not_empty ws
kept [] ws h = let k : ⊥ = omega (arith, h) in elim k [ ]
kept (b ∷ w) ws h = refl

-- a word and what stands apart from it
pub words_word : (w r : List ℕ) → AllByRecursion (λ b. is_space b ≡ false) w → 0 < length w → Apart r → words (w ++ r) ≡ w ∷ words r
words_word w [] h some apart =
    ap words (append-nil w) ∙ words_are w ∙ ap (filter not_empty) (split_last w h) ∙ kept w [] some ∙ ap (λ z. w ∷ z) (sym words_nil)
words_word w (y ∷ ys) h some apart =
    words_are (w ++ (y ∷ ys)) ∙ ap (filter not_empty) (split_next w y ys h apart) ∙ kept w (parts ys) some
    ∙ ap (λ z. w ∷ z) (sym (words_are ys) ∙ sym (words_space y ys apart))

or_no : (a b : Bool) → (a || b) ≡ false → a ≡ false
or_no false b h = refl
or_no true b h = h

-- what ends no word is no space
pub goes_on : (b : ℕ) → ends_word b ≡ false → is_space b ≡ false
goes_on b e = or_no (is_space b) _ e

no_spaces : (w : List ℕ) → AllByRecursion (λ b. ends_word b ≡ false) w → AllByRecursion (λ b. is_space b ≡ false) w
no_spaces [] h = tt
no_spaces (b ∷ w) h = (goes_on b h.0, no_spaces w h.1)

all_more : (P : ℕ → Type 0) (xs : List ℕ) (x : ℕ) → AllByRecursion P xs → P x → AllByRecursion P (xs ++ (x ∷ []))
all_more P [] x h k = (k, tt)
all_more P (y ∷ ys) x h k = (h.0, all_more P ys x h.1 k)

-- no end of a word at i
pub whole_more : (bs : List ℕ) (i : ℕ) → i < length bs → ends_word (get_or bs i 0) ≡ false → AllByRecursion (λ b. ends_word b ≡ false) (take i bs)
    → AllByRecursion (λ b. ends_word b ≡ false) (take (i + 1) bs)
whole_more bs i low e h =
    let next : take (i + 1) bs ≡ take i bs ++ (get_or bs i 0 ∷ []) = rw add-one (take-suc bs i 0 low) in
    subst (AllByRecursion (λ b. ends_word b ≡ false)) (sym next) (all_more (λ b. ends_word b ≡ false) (take i bs) (get_or bs i 0) h e)

-- the end of a word at i, or the end of all
pub over_at : (bs : List ℕ) (i : ℕ) → i < length bs → ends_word (get_or bs i 0) ≡ true → WordOver (drop i bs)
over_at bs i low e = subst WordOver (sym (from_next bs i low)) e

pub over_end : (bs : List ℕ) (i : ℕ) → i ≡ length bs → WordOver (drop i bs)
over_end bs i e = subst WordOver (sym (ap (λ k. drop k bs) e ∙ drop-length bs)) tt

pub next_word : (c h d : Cursor) (w : List ℕ) → After c h [] → h.at ≡ past c → words_left h ≡ words_left c → After h d w → d.at ≡ h.at + length w
    → left_of h ≡ w ++ left_of d → AllByRecursion (λ b. ends_word b ≡ false) w → WordOver (left_of d) → 0 < length w → NextWord c d w
next_word c h d w gap at apart q to is whole over some = record {
  after = record { same = q.same ∙ gap.same; text = gap.text ∙ q.text };
  between = word_between c h d w gap.same at is to whole over;
  same_words = sym apart ∙ ap words is;
  some = some;
  whole = whole;
  over = over;
}

-- ---- what stands apart

no_words_at : (b : ℕ) (s : List ℕ) (v : Bool) → is_space b ≡ v → (squeezed s ≡ [] → words s ≡ []) → squeezed (b ∷ s) ≡ [] → words (b ∷ s) ≡ []
no_words_at b s true i rest e = words_space b s i ∙ rest (sym (squeezed_cons b s true i) ∙ e)
no_words_at b s false i rest e = let k = sym (squeezed_cons b s false i) ∙ e in cc

pub no_words : (s : List ℕ) → squeezed s ≡ [] → words s ≡ []
no_words [] e = words_nil
no_words (b ∷ s) e = no_words_at b s (is_space b) refl (λ k. no_words s k) e

apart_end_at : (b : ℕ) (s : List ℕ) (v : Bool) → is_space b ≡ v → squeezed (b ∷ s) ≡ [] → is_space b ≡ true
apart_end_at b s true i e = i
apart_end_at b s false i e = let k = sym (squeezed_cons b s false i) ∙ e in cc

pub apart_end : (s : List ℕ) → squeezed s ≡ [] → Apart s
apart_end [] e = tt
apart_end (b ∷ s) e = apart_end_at b s (is_space b) refl e

ends_twice : (y b : ℕ) (ys rest : List ℕ) → y ∷ ys ≡ b ∷ rest → ends_word y ≡ true → ends_word b ≡ false → ⊥
ends_twice y b ys rest e p q =
    let same : y ≡ b = cc in
    let k : true ≡ false = sym p ∙ ap ends_word same ∙ q in
    cc

apart_letter_at : (y b : ℕ) (ys rest : List ℕ) (v : Bool) → is_space y ≡ v → ends_word y ≡ true → squeezed (y ∷ ys) ≡ b ∷ rest → ends_word b ≡ false → is_space y ≡ true
apart_letter_at y b ys rest true i p e q = i
apart_letter_at y b ys rest false i p e q = elim (ends_twice y b (squeezed ys) rest (sym (squeezed_cons y ys false i) ∙ e) p q) [ ]

-- A word comes next: what ended the one before it was a space.
pub apart_letter : (s : List ℕ) (b : ℕ) (rest : List ℕ) → WordOver s → squeezed s ≡ b ∷ rest → ends_word b ≡ false → Apart s
apart_letter [] b rest over e q = tt
apart_letter (y ∷ ys) b rest over e q = apart_letter_at y b ys rest (is_space y) refl over e q

apart_before : (s w r : List ℕ) → WordOver s → squeezed s ≡ w ++ r → AllByRecursion (λ b. ends_word b ≡ false) w → 0 < length w → Apart s
apart_before s [] r over e h some = let k : ⊥ = omega (arith, some) in elim k [ ]
apart_before s (b ∷ w) r over e h some = apart_letter s b (w ++ r) over e h.0

apart_next : (c d : Cursor) (w : List ℕ) → NextWord c d w → WordOver (left_of c) → Apart (left_of c)
apart_next c d w h over = apart_before (left_of c) w (rest_of d) over h.after.text h.whole h.some

taken : (c d : Cursor) (w : List ℕ) → NextWord c d w → Apart (left_of d) → words_left c ≡ w ∷ words_left d
taken c d w h apart = h.same_words ∙ words_word w (left_of d) (no_spaces w h.whole) h.some apart

pub one_word : (c d : Cursor) (w : List ℕ) → WordOver (left_of c) → NextWord c d w → rest_of d ≡ [] → Apart (left_of c) × (words_left c ≡ w ∷ [])
one_word c d w over h end = (
  apart_next c d w h over,
  taken c d w h (apart_end (left_of d) end) ∙ ap (λ z. w ∷ z) (no_words (left_of d) end),
)

pub two_words : (c d e : Cursor) (v w : List ℕ) → WordOver (left_of c) → NextWord c d v → NextWord d e w → rest_of e ≡ []
    → Apart (left_of c) × (words_left c ≡ v ∷ w ∷ [])
two_words c d e v w over h k end =
    let second = one_word d e w h.over k end in
    (apart_next c d v h over, taken c d v h second.0 ∙ ap (λ z. v ∷ z) second.1)

pub word_text_some : (w : LineWord) → 0 < length (word_text w)
word_text_some (HeadLine head.Yarn) = omega arith
word_text_some (HeadLine head.Hands) = omega arith
word_text_some (HeadLine head.Roles) = omega arith
word_text_some (HeadLine head.Records) = omega arith
word_text_some (StepLine word.Rows) = omega arith
word_text_some (StepLine word.Withdraw) = omega arith
word_text_some (StepLine word.Show) = omega arith
word_text_some (StepLine word.TurnBack) = omega arith
word_text_some (StepLine word.Tally) = omega arith
word_text_some (StepLine word.Draft) = omega arith
word_text_some (StepLine word.Sheet) = omega arith

pub first_word : (line : List ℕ) (start here after : Cursor) (w : List ℕ) → words_left start ≡ words line → words_left here ≡ words_left start
    → left_of here ≡ w ++ left_of after → AllByRecursion (λ b. ends_word b ≡ false) w → 0 < length w → Apart (left_of after) → words line ≡ w ∷ words_left after
first_word line start here after w whole apart is h some over =
    sym whole ∙ sym apart ∙ ap words is ∙ words_word w (left_of after) (no_spaces w h) some over

pub step_said : (line : List ℕ) (number : ℕ) (w : WordLine) (s : StepWord) (t : Step) → WordRead line number w → w.word ≡ StepLine s → word_of t ≡ s
    → Apart (left_of w.after) → Operands (words_left w.after) t → StepSaid line t
step_said line number w s t read is named apart operands = record {
  behind = words_left w.after;
  is = read.words apart ∙ ap (λ z. word_text z ∷ words_left w.after) is ∙ ap (λ z. step_text z ∷ words_left w.after) (sym named);
  operands = operands;
}

-- ---- the word that a line begins with

first_onto : (b : ℕ) (xs : List (List ℕ)) → (v : List ℕ) × (vs : List (List ℕ)) × (filter not_empty (onto_first b xs) ≡ (b ∷ v) ∷ vs)
first_onto b [] = ([], [], refl)
first_onto b (x ∷ xs) = (x, filter not_empty xs, refl)

pub words_letter : (b : ℕ) (s : List ℕ) → is_space b ≡ false → (v : List ℕ) × (vs : List (List ℕ)) × (words (b ∷ s) ≡ (b ∷ v) ∷ vs)
words_letter b s e =
    let first = first_onto b (slice_split is_space s) in
    (first.0, first.1, words_are (b ∷ s) ∙ ap (filter not_empty) (slice_split-cons_no is_space b s e) ∙ first.2)

-- The first part of a text, into which no word goes on.
record FirstPart (b : List ℕ) : Type 0 where
  part : List ℕ
  more : List (List ℕ)
  is : parts b ≡ part ∷ more
  over : WordOver part

onto_sign : (y : ℕ) (ys : List ℕ) (xs : List (List ℕ)) → ends_word y ≡ true → parts (y ∷ ys) ≡ onto_first y xs → FirstPart (y ∷ ys)
onto_sign y ys [] over e = record { part = y ∷ []; more = []; is = e; over = over }
onto_sign y ys (x ∷ xs) over e = record { part = y ∷ x; more = xs; is = e; over = over }

first_part_at : (y : ℕ) (ys : List ℕ) (v : Bool) → is_space y ≡ v → ends_word y ≡ true → FirstPart (y ∷ ys)
first_part_at y ys true i over = record { part = []; more = parts ys; is = slice_split-cons_yes is_space y ys i; over = tt }
first_part_at y ys false i over = onto_sign y ys (parts ys) over (slice_split-cons_no is_space y ys i)

first_part : (b : List ℕ) → WordOver b → FirstPart b
first_part [] over = record { part = []; more = []; is = refl; over = tt }
first_part (y ∷ ys) over = first_part_at y ys (is_space y) refl over

parts_behind : (u b p : List ℕ) (ps : List (List ℕ)) → AllByRecursion (λ b. is_space b ≡ false) u → parts b ≡ p ∷ ps → parts (u ++ b) ≡ (u ++ p) ∷ ps
parts_behind [] b p ps h e = e
parts_behind (x ∷ u) b p ps h e = slice_split-cons_no is_space x (u ++ b) h.0 ∙ ap (onto_first x) (parts_behind u b p ps h.1 e)

-- The first word begins with what no word goes on behind.
record FirstIs (s u : List ℕ) : Type 0 where
  part : List ℕ
  more : List (List ℕ)
  is : words s ≡ (u ++ part) ∷ more
  over : WordOver part

first_is : (u b : List ℕ) → AllByRecursion (λ b. ends_word b ≡ false) u → 0 < length u → WordOver b → FirstIs (u ++ b) u
first_is [] b h some over = let k : ⊥ = omega (arith, some) in elim k [ ]
first_is (x ∷ u) b h some over =
    let first = first_part b over in
    record {
      part = first.part;
      more = filter not_empty first.more;
      is = words_are ((x ∷ u) ++ b) ∙ ap (filter not_empty) (parts_behind (x ∷ u) b first.part first.more (no_spaces (x ∷ u) h) first.is);
      over = first.over;
    }

no_letter : (y : ℕ) (w m : List ℕ) → WordOver m → m ≡ y ∷ w → ends_word y ≡ false → ⊥
no_letter y w m over e q = let k : true ≡ false = sym (subst WordOver e over) ∙ q in cc

same_run : (u w m n : List ℕ) → AllByRecursion (λ b. ends_word b ≡ false) u → AllByRecursion (λ b. ends_word b ≡ false) w → WordOver m → WordOver n
    → u ++ m ≡ w ++ n → u ≡ w
same_run [] [] m n h k p q e = refl
same_run [] (y ∷ w) m n h k p q e = elim (no_letter y (w ++ n) m p e k.0) [ ]
same_run (x ∷ u) [] m n h k p q e = elim (no_letter x (u ++ m) n q (sym e) h.0) [ ]
same_run (x ∷ u) (y ∷ w) m n h k p q e =
    let first : x ≡ y = cc in
    let rest : u ++ m ≡ w ++ n = cc in
    ap (λ z. z ∷ u) first ∙ ap (λ z. y ∷ z) (same_run u w m n h.1 k.1 p q rest)

heads_same : (x y : List ℕ) (xs ys : List (List ℕ)) → x ∷ xs ≡ y ∷ ys → x ≡ y
heads_same x y xs ys e = cc

same_word : (u w b c : List ℕ) → AllByRecursion (λ b. ends_word b ≡ false) u → AllByRecursion (λ b. ends_word b ≡ false) w → 0 < length u → 0 < length w
    → WordOver b → WordOver c → words (u ++ b) ≡ words (w ++ c) → u ≡ w
same_word u w b c h k p q over end e =
    let f = first_is u b h p over in
    let g = first_is w c k q end in
    same_run u w f.part g.part h k f.over g.over (heads_same _ _ f.more g.more (sym f.is ∙ e ∙ g.is))

word_whole : (w : LineWord) → AllByRecursion (λ b. ends_word b ≡ false) (word_text w)
word_whole (HeadLine head.Yarn) = (refl, (refl, (refl, (refl, tt))))
word_whole (HeadLine head.Hands) = (refl, (refl, (refl, (refl, (refl, tt)))))
word_whole (HeadLine head.Roles) = (refl, (refl, (refl, (refl, (refl, tt)))))
word_whole (HeadLine head.Records) = (refl, (refl, (refl, (refl, (refl, (refl, (refl, tt)))))))
word_whole (StepLine word.Rows) = (refl, (refl, (refl, (refl, tt))))
word_whole (StepLine word.Withdraw) = (refl, (refl, (refl, (refl, (refl, (refl, (refl, (refl, tt))))))))
word_whole (StepLine word.Show) = (refl, (refl, (refl, (refl, tt))))
word_whole (StepLine word.TurnBack) = (refl, (refl, (refl, (refl, (refl, (refl, (refl, (refl, tt))))))))
word_whole (StepLine word.Tally) = (refl, (refl, (refl, (refl, (refl, tt)))))
word_whole (StepLine word.Draft) = (refl, (refl, (refl, (refl, (refl, tt)))))
word_whole (StepLine word.Sheet) = (refl, (refl, (refl, (refl, (refl, tt)))))

-- What begins with a sign begins with no word.
sign_first : (w s b : List ℕ) → WordOver s → Flush s → (s ≡ [] → ⊥) → AllByRecursion (λ b. ends_word b ≡ false) w → 0 < length w → WordOver b → words s ≡ words (w ++ b) → ⊥
sign_first w [] b over flush some whole long end e = some refl
sign_first [] (y ∷ ys) b over flush some whole long end e = let k : ⊥ = omega (arith, long) in k
sign_first (x ∷ w) (y ∷ ys) b over flush some whole long end e =
    let f = first_is (x ∷ w) b whole long end in
    let g = words_letter y ys flush in
    let heads : y ∷ g.0 ≡ x ∷ (w ++ f.part) = heads_same _ _ g.1 f.more (sym g.2 ∙ e ∙ f.is) in
    ends_twice y x g.0 (w ++ f.part) heads over whole.0

-- The word that comes first is none of a job's.
pub unknown : (line s w r : List ℕ) → words line ≡ words s → s ≡ w ++ r → AllByRecursion (λ b. ends_word b ≡ false) w → WordOver r → Flush s → (s ≡ [] → ⊥)
    → ((l : LineWord) → w ≡ word_text l → ⊥) → Unknown line
unknown line s [] r all is whole over flush some none l begins =
    sign_first (word_text l) s begins.behind (subst WordOver (sym is) over) flush some (word_whole l) (word_text_some l) begins.over (sym all ∙ begins.is)
unknown line s (x ∷ w) r all is whole over flush some none l begins =
    let long : 0 < length (x ∷ w) = omega arith in
    none l (same_word (x ∷ w) (word_text l) r begins.behind whole (word_whole l) long (word_text_some l) over begins.over (sym (ap words is) ∙ sym all ∙ begins.is))

-- ---- lines that are not blank

pub left_some : (bs : List ℕ) (at : ℕ) → at ≤ length bs → (at == length bs) ≡ false → drop at bs ≡ [] → ⊥
left_some bs at low more e =
    let none : length bs - at ≡ 0 = sym (length-drop at bs) ∙ ap length e in
    eqb-false at (length bs) more (omega (arith, none, low))

hash_first : (y : ℕ) (ys w r : List ℕ) → y ∷ ys ≡ w ++ r → WordOver r → (get_or w 0 0 ≡ 35 → ⊥) → y ≡ 35 → ⊥
hash_first y ys [] [] is over other e = cc
hash_first y ys [] (z ∷ zs) is over other e =
    let same : z ≡ 35 = cc in
    let k : true ≡ false = sym over ∙ ap ends_word same in
    cc
hash_first y ys (x ∷ w) r is over other e = other cc

speaks_at : (s t w r : List ℕ) → t ≡ squeezed s → s ≡ w ++ r → WordOver r → Flush s → (s ≡ [] → ⊥) → (get_or w 0 0 ≡ 35 → ⊥) → (t ≡ []) ⊎ (slice_index t 0 ≡ 35) → ⊥
speaks_at [] t w r all is over flush some other blank = some refl
speaks_at (y ∷ ys) t w r all is over flush some other (inl e) = let k = sym e ∙ all ∙ squeezed_cons y ys false flush in cc
speaks_at (y ∷ ys) t w r all is over flush some other (inr e) =
    hash_first y ys w r is over other (ap (λ z. slice_index z 0) (sym (all ∙ squeezed_cons y ys false flush)) ∙ e)

pub speaks : (line s w r : List ℕ) → squeezed line ≡ squeezed s → s ≡ w ++ r → WordOver r → Flush s → (s ≡ [] → ⊥) → (get_or w 0 0 ≡ 35 → ⊥) → Speaks line
speaks line s w r all is over flush some other blank = speaks_at s (squeezed line) w r all is over flush some other blank

pub no_bytes : (w : List ℕ) → (length w == 0) ≡ true → get_or w 0 0 ≡ 35 → ⊥
no_bytes [] e k = cc
no_bytes (b ∷ w) e k = let none : length (b ∷ w) ≡ 0 = eqb-true (length (b ∷ w)) 0 e in omega (arith, none)
