-- A row that is read field by field.
use Rattle.std.proofs.Common.{◌≡◌, ℕ, suc, ◌+◌, ◌<◌, false, List, [], ◌∷◌, ◌++◌, Ok, Err, Result, MatchResult, IfOk, IfErr, length, drop, map, refl, ap, sym, subst, ◌∙◌, append_assoc, append-nil, length-append, inl, inr, arith}
use Rattle.std.proofs.lemmas.List.{flat_map_more, map_push}
use Rattle.std.specs.List.{AllByRecursion, flat_map}
use Rattle.std.specs.Str.Parse.{AllDigits, digits_value}
use Rattle.jobs.specs.Faults.{Blames, NextWrong, NotFirst}
use Rattle.jobs.proofs.Faults.{left_past}
use Rattle.jobs.specs.Places.{After, NumberRead, SignBetween, SignPast, WordBetween, bad_at, blamed, left_of, line_start, next_at, past, place_from, rest_of}
use Rattle.jobs.specs.Rows.{Row, RowStands, RowWrong, FieldBetween, FieldsBetween, FieldRead, FieldWrong, Continues}
use Rattle.jobs.specs.Signs.{ends_word}
use Rattle.jobs.specs.declared.cursor.Cursor.{Cursor}
use Rattle.jobs.specs.declared.cursor.Source.{Source}
use Rattle.jobs.specs.declared.place.BadText.{BadText}
use Rattle.jobs.specs.declared.place.Sign.TheVariants.{Comma}
use Rattle.jobs.specs.declared.place.Wrong.{Wrong}
use Rattle.jobs.specs.declared.place.Wrong.TheVariants.{NoNumber, MissingSign, NoMemory}

abbrev comma_behind : List ℕ → List ℕ
comma_behind f = f ++ (44 ∷ [])

-- What was read before a place: fields with a comma behind each.
pub record SoFar (s numbers : List ℕ) (c : Cursor) : Type 0 where
  pub fields : List (List ℕ)
  pub digits : AllByRecursion (AllDigits 10) fields
  pub is : s ≡ flat_map (λ f. f ++ (44 ∷ [])) fields ++ rest_of c
  pub values : numbers ≡ map (digits_value 10) fields

pub so_far_nothing : (c : Cursor) (numbers : List ℕ) → numbers ≡ [] → SoFar (rest_of c) numbers c
so_far_nothing c numbers e = record { fields = []; digits = tt; is = refl; values = e }

all_push : (xs : List (List ℕ)) (x : List ℕ) → AllByRecursion (AllDigits 10) xs → AllDigits 10 x → AllByRecursion (AllDigits 10) (xs ++ (x ∷ []))
all_push [] x h k = (k, tt)
all_push (y ∷ ys) x h k = (h.0, all_push ys x h.1 k)

-- what is left behind a field is a comma and more
behind : (c d e f : Cursor) (text : List ℕ) → After c d text → After d e [] → After e f (44 ∷ []) → rest_of c ≡ text ++ (44 ∷ rest_of f)
behind c d e f text p q r = p.text ∙ ap (λ z. text ++ z) (q.text ∙ r.text)

pub so_far_more : (s numbers after : List ℕ) (c d e f : Cursor) (n : ℕ) → SoFar s numbers c → FieldRead c d n → after ≡ numbers ++ (n ∷ []) → After d e []
    → After e f (44 ∷ []) → SoFar s after f
so_far_more s numbers after c d e f n h p push q r =
    let before : List ℕ = flat_map (λ g. g ++ (44 ∷ [])) h.fields in
    let text : List ℕ = p.text in
    record {
      fields = h.fields ++ (text ∷ []);
      digits = all_push h.fields text h.digits p.digits;
      is =
          h.is ∙ ap (λ z. before ++ z) (behind c d e f text p.after q r ∙ sym (append_assoc text (44 ∷ []) (rest_of f)))
          ∙ sym (append_assoc before (text ++ (44 ∷ [])) (rest_of f))
          ∙ ap (λ z. z ++ rest_of f) (flat_map_more (λ g. g ++ (44 ∷ [])) [] h.fields text);
      values = push ∙ ap (λ z. z ++ (n ∷ [])) h.values ∙ ap (λ z. map (digits_value 10) h.fields ++ (z ∷ [])) p.value ∙ sym (map_push (digits_value 10) h.fields text);
    }

pub so_far_all : (s numbers after : List ℕ) (c d e : Cursor) (n : ℕ) → SoFar s numbers c → FieldRead c d n → after ≡ numbers ++ (n ∷ []) → After d e []
    → rest_of e ≡ [] → Row s after
so_far_all s numbers after c d e n h p push q end =
    let text : List ℕ = p.text in
    record {
      fields = h.fields;
      last = text;
      digits = all_push h.fields text h.digits p.digits;
      is = h.is ∙ ap (λ z. flat_map (λ g. g ++ (44 ∷ [])) h.fields ++ z) (p.after.text ∙ ap (λ z. text ++ z) (q.text ∙ end) ∙ append-nil text);
      values = push ∙ ap (λ z. z ++ (n ∷ [])) h.values ∙ ap (λ z. map (digits_value 10) h.fields ++ (z ∷ [])) p.value ∙ sym (map_push (digits_value 10) h.fields text);
    }

pub shorter : (c d e f : Cursor) (n : ℕ) → FieldRead c d n → After d e [] → After e f (44 ∷ []) → length (rest_of f) < length (rest_of c)
shorter c d e f n p q r =
    let long : length (rest_of c) ≡ length p.text + suc (length (rest_of f)) = ap length (behind c d e f p.text p.after q r) ∙ length-append p.text (44 ∷ rest_of f) in
    omega arith

-- ---- a row that is none

-- A word that is not empty begins with no comma.
pub word_continues : (t w r : List ℕ) → t ≡ w ++ r → AllByRecursion (λ b. ends_word b ≡ false) w → 0 < length w → Continues t
word_continues [] [] r is whole some = omega (arith, some)
word_continues [] (b ∷ w) r is whole some = cc
word_continues (x ∷ t) [] r is whole some = let k : ⊥ = omega (arith, some) in elim k [ ]
word_continues (x ∷ t) (b ∷ w) r is whole some = λ comma.
    let same : x ≡ b = cc in
    let k : ends_word 44 ≡ false = ap ends_word (sym comma ∙ same) ∙ whole.0 in
    cc

pub sign_continues : (t : List ℕ) → NotFirst 44 t → (t ≡ [] → ⊥) → Continues t
sign_continues [] absent some = some refl
sign_continues (b ∷ t) absent some = absent

-- The line that is read.
pub record OfLine (line : List ℕ) (number : ℕ) (s : Source) : Type 0 where
  pub bytes : s.bytes.now ≡ line
  pub start : s.start ≡ line_start number

-- one field more, and a comma
pub fields_more : (line : List ℕ) (from : ℕ) (ns : List ℕ) (a n end next : ℕ) → FieldsBetween line from ns a → FieldBetween line a n end → SignBetween line end 44 next
    → FieldsBetween line from (ns ++ (n ∷ [])) next
fields_more line from [] a n end next here field comma = (end, next, subst (λ k. FieldBetween line k n end) here field, comma, refl)
fields_more line from (m ∷ ns) a n end next (e, k, f, s, more) field comma = (e, k, f, s, fields_more line k ns a n end next more field comma)

-- A field and a sign that were read stand on the line.
pub field_on : (line : List ℕ) (c d : Cursor) (n : ℕ) → c.source.bytes.now ≡ line → FieldRead c d n → FieldBetween line c.at n d.at
field_on line c d n bytes f = (f.text, subst (λ z. WordBetween z c.at f.text d.at) bytes f.between, f.digits, f.value)

-- What was read before a place, by where it stands.
abbrev pub Stood : List ℕ → List ℕ → Cursor → Type 0
Stood line numbers c = FieldsBetween line 0 numbers c.at

-- A loop over the fields of a line begins at its start, and has come to a place of the same text.
pub on_line : (line : List ℕ) (number : ℕ) (numbers : List ℕ) (begin c : Cursor) (given : Source) → given.bytes.now ≡ line → given.start ≡ line_start number
    → begin.source ≡ given → c.source ≡ begin.source → Stood begin.source.bytes.now numbers c → OfLine line number c.source × Stood line numbers c
on_line line number numbers begin c given bytes start same here stood =
    let source : c.source ≡ given = here ∙ same in (
      record { bytes = ap (λ (z : Source). z.bytes.now) source ∙ bytes; start = ap (λ (z : Source). z.start) source ∙ start },
      subst (λ z. Stood z numbers c) (ap (λ (z : Source). z.bytes.now) same ∙ bytes) stood,
    )

pub stood_more : (line : List ℕ) (numbers after : List ℕ) (c d f : Cursor) (n : ℕ) → c.source.bytes.now ≡ line → Stood line numbers c → FieldRead c d n
    → d.source ≡ c.source → SignPast d Comma f → after ≡ numbers ++ (n ∷ []) → Stood line after f
stood_more line numbers after c d f n bytes before field same comma push =
    let sign : SignBetween line d.at 44 f.at = subst (λ z. SignBetween z d.at 44 f.at) (ap (λ (z : Source). z.bytes.now) same ∙ bytes) comma in
    subst (λ z. FieldsBetween line 0 z f.at) (sym push) (fields_more line 0 numbers c.at n d.at f.at before (field_on line c d n bytes field) sign)

pub stood_all : (line : List ℕ) (number : ℕ) (numbers after : List ℕ) (c d h : Cursor) (n : ℕ) → OfLine line number c.source → Stood line numbers c → FieldRead c d n
    → d.source ≡ c.source → h.source ≡ d.source → h.at ≡ past d → left_of h ≡ [] → after ≡ numbers ++ (n ∷ []) → RowStands line after
stood_all line number numbers after c d h n of before field same gone at end push = record {
  before = numbers;
  last = n;
  is = push;
  from = c.at;
  fields = before;
  to = d.at;
  field = field_on line c d n of.bytes field;
  end = subst (λ z. drop (next_at z d.at) z ≡ []) (ap (λ (z : Source). z.bytes.now) same ∙ of.bytes) (sym (left_past d h gone at) ∙ end);
}

-- What is wrong with the text is wrong with the line.
next_on : (line : List ℕ) (number : ℕ) (s : Source) (from : ℕ) (w : Wrong) (e : BadText) → OfLine line number s → NextWrong s.bytes.now s.start from w e
    → NextWrong line (line_start number) from w e
next_on line number s from w e of h = subst (λ z. NextWrong z (line_start number) from w e) of.bytes (subst (λ z. NextWrong s.bytes.now z from w e) of.start h)

pub field_wrong : (line : List ℕ) (number : ℕ) (numbers : List ℕ) (c : Cursor) (e : BadText) → OfLine line number c.source → Stood line numbers c → FieldWrong c e
    → RowWrong line number e
field_wrong line number numbers c e of before f = record {
  before = numbers;
  from = c.at;
  fields = before;
  fault = inl (next_on line number c.source c.at NoNumber e of f.next, subst (λ z. Continues (drop (next_at z c.at) z)) of.bytes f.continues);
}

pub comma_wrong : (line : List ℕ) (number : ℕ) (numbers : List ℕ) (c d h : Cursor) (n : ℕ) (e : BadText) → OfLine line number c.source → Stood line numbers c
    → FieldRead c d n → d.source ≡ c.source → h.source ≡ d.source → h.at ≡ past d → (left_of h ≡ [] → ⊥) → NextWrong d.source.bytes.now d.source.start d.at (MissingSign Comma) e
    → RowWrong line number e
comma_wrong line number numbers c d h n e of before field same gone at some wrong =
    let there : OfLine line number d.source = subst (OfLine line number) (sym same) of in
    let more : Continues (drop (past d) d.source.bytes.now) =
    sign_continues _ wrong.stands.1 (λ none. some (left_past d h gone at ∙ none)) in
    record {
      before = numbers;
      from = c.at;
      fields = before;
      fault = inr (inl (
        n,
        d.at,
        field_on line c d n of.bytes field,
        next_on line number d.source d.at (MissingSign Comma) e there wrong,
        subst (λ z. Continues (drop (next_at z d.at) z)) there.bytes more,
      ));
    }

pub row_memory : (line : List ℕ) (number : ℕ) (numbers : List ℕ) (c : Cursor) (e : BadText) → OfLine line number c.source → Stood line numbers c → e ≡ bad_at c NoMemory
    → RowWrong line number e
row_memory line number numbers c e of before is = record {
  before = numbers;
  from = c.at;
  fields = before;
  fault = inr (inr (is ∙ ap (λ z. blamed (place_from z c.at) NoMemory) of.start));
}

pub after_self : (c : Cursor) → After c c []
after_self c = record { same = refl; text = refl }

-- A field that begins with a word is its number, or none.
pub field_number : (c h d : Cursor) (w : List ℕ) (r : Result (ℕ × Cursor) BadText) → IfOk r (λ p. NumberRead c p.1 p.0) → IfErr r (Blames c NoNumber) → After c h []
    → h.at ≡ past c → left_of h ≡ w ++ left_of d → AllByRecursion (λ b. ends_word b ≡ false) w → 0 < length w → MatchResult r (λ p. FieldRead c p.1 p.0) (FieldWrong c)
field_number c h d w (Ok p) read fault gap at is whole some = record { text = read.digits; after = read.word.after; between = read.word.between; digits = read.number.0.1; value = read.number.1 }
field_number c h d w (Err e) read fault gap at is whole some =
    let here : left_of h ≡ drop (past c) c.source.bytes.now =
    ap (λ (z : Source). drop h.at z.bytes.now) gap.same ∙ ap (λ k. drop k c.source.bytes.now) at in
    record { next = fault.0; continues = subst Continues here (word_continues (left_of h) w (left_of d) is whole some) }
