-- Where a text is wrong.
use Rattle.std.proofs.Common.{◌≡◌, ℕ, zero, suc, ◌+◌, ◌^◌, ◌<◌, ◌≤◌, ◌⊎◌, false, List, [], ◌∷◌, ◌++◌, length, drop, get_or, refl, ap, sym, subst, ◌∙◌, inl, inr, arith}
use Rattle.std.proofs.lemmas.Bool.{cases_lt}
use Rattle.std.proofs.lemmas.Str.{IsUtf8-from_ascii}
use Rattle.std.proofs.lemmas.Str.Parse.{digit_from_value, without_leading_plus_none}
use Rattle.std.specs.List.{AllByRecursion}
use Rattle.std.specs.Prelude.{IsAscii, IsUtf8}
use Rattle.std.specs.Str.Parse.{AllDigits, IsNumeral, digits_value, without_leading_plus}
use Rattle.jobs.specs.Faults.{Blames, InText, Stands, WordIs, WrongAt}
use Rattle.jobs.specs.Places.{After, First, IsOn, SignBetween, WordBetween, bad_at, blamed, first_place, left_of, line_start, past, place_from, place_of}
use Rattle.jobs.specs.Signs.{ends_word, spaces_first, Flush, IsNoNumber, WordOver}
use Rattle.jobs.specs.declared.cursor.Cursor.{Cursor}
use Rattle.jobs.specs.declared.cursor.Source.{Source}
use Rattle.jobs.specs.declared.place.BadText.{BadText}
use Rattle.jobs.specs.declared.place.Place.{Place}
use Rattle.jobs.specs.declared.place.Wrong.{Wrong}
use Rattle.jobs.specs.declared.place.Wrong.TheVariants.{NoMemory}

pub in_text_at : (s : Source) (h : Cursor) (w : Wrong) (e : BadText) → h.source ≡ s → e ≡ bad_at h w → Stands w (left_of h) → InText s e
in_text_at s h w e same is stands = record {
  at = h.at;
  within = subst (λ (z : Source). h.at ≤ length z.bytes.now) same h.within;
  place = ap (λ (z : BadText). z.place) is ∙ ap (λ (z : Source). place_from z.start h.at) same;
  stands = subst (λ z. Stands z (drop h.at s.bytes.now)) (sym (ap (λ (z : BadText). z.wrong) is))
      (subst (λ (z : Source). Stands w (drop h.at z.bytes.now)) same stands);
}

pub no_memory : (c : Cursor) (e : BadText) → e ≡ bad_at c NoMemory → InText c.source e
no_memory c e is = in_text_at c.source c NoMemory e refl is tt

-- What is wrong behind spaces.
pub blames : (c h : Cursor) (w : Wrong) (e : BadText) → After c h [] → h.at ≡ past c → e ≡ bad_at h w → Stands w (left_of h) → Blames c w e
blames c h w e gap at is stands =
    let same = gap.same in
    let bytes : h.source.bytes.now ≡ c.source.bytes.now = ap (λ (z : Source). z.bytes.now) same in (
      record {
        is = is ∙ ap (λ z. blamed z w) (ap (λ (z : Source). place_from z.start h.at) same ∙ ap (place_from c.source.start) at);
        within = subst (λ k. k ≤ length c.source.bytes.now) at (subst (λ z. h.at ≤ length z) bytes h.within);
        stands = subst (λ k. Stands w (drop k c.source.bytes.now)) at (subst (λ z. Stands w (drop h.at z)) bytes stands);
      },
      in_text_at c.source h w e same is stands,
    )

pub word_is : (P : List ℕ → Type 0) (s r w : List ℕ) → Flush s → s ≡ w ++ r → AllByRecursion (λ b. ends_word b ≡ false) w → WordOver r → P w → WordIs P s
word_is P s r w flush is whole over p = (flush, (w, record { rest = r; is = is; whole = whole; over = over }, p))

-- ---- words that are no number

digit_first : (c : ℕ) (cs : List ℕ) → AllDigits 10 (c ∷ cs) → c < 128
digit_first c cs h = let k = digit_from_value c h.0 in omega (arith, k.0, k.1)

digits_ascii : (w : List ℕ) → AllDigits 10 w → IsAscii w
digits_ascii [] h i = omega arith
digits_ascii (c ∷ cs) h zero = digit_first c cs h
digits_ascii (c ∷ cs) h (suc i) = digits_ascii cs h.1 i

pub no_text : (w : List ℕ) → (IsUtf8 w → ⊥) → IsNoNumber w
no_text w never numeral = elim (never (IsUtf8-from_ascii w (digits_ascii w numeral.1))) [ ]

plus_at : (c : ℕ) (cs : List ℕ) → c ≡ 43 → AllDigits 10 (c ∷ cs) → ⊥
plus_at c cs e h = let k = digit_from_value c h.0 in omega (arith, k.0, k.1, e)

pub plus_first : (w : List ℕ) → get_or w 0 0 ≡ 43 → IsNoNumber w
plus_first [] e numeral = let k : ⊥ = omega (arith, numeral.0) in elim k [ ]
plus_first (c ∷ cs) e numeral = elim (plus_at c cs e numeral.1) [ ]

large_at : (n : ℕ) → (n < 2 ^ 64) ⊎ (2 ^ 64 ≤ n) → (n < 2 ^ 64 → ⊥) → 2 ^ 64 ≤ n
large_at n (inl low) never = elim (never low) [ ]
large_at n (inr high) never = high

pub too_large : (w : List ℕ) → (get_or w 0 0 ≡ 43 → ⊥) → (IsNumeral 10 (without_leading_plus w) × (digits_value 10 (without_leading_plus w) < 2 ^ 64) → ⊥) → IsNoNumber w
too_large w other never numeral =
    let neither : IsNumeral 10 w × (digits_value 10 w < 2 ^ 64) → ⊥ = subst (λ z. IsNumeral 10 z × (digits_value 10 z < 2 ^ 64) → ⊥) (without_leading_plus_none w other) never in
    large_at (digits_value 10 w) (cases_lt (digits_value 10 w) (2 ^ 64)) (λ low. neither (numeral, low))

-- ---- whole texts

pub wrong_at : (s : Source) (text : List ℕ) (start : Place) (e : BadText) → s.bytes.now ≡ text → s.start ≡ start → InText s e → WrongAt text start e
wrong_at s text start e bytes begins h = record {
  at = h.at;
  within = subst (λ z. h.at ≤ length z) bytes h.within;
  place = h.place ∙ ap (λ z. place_from z h.at) begins;
  stands = subst (λ z. Stands e.wrong (drop h.at z)) bytes h.stands;
}

pub begins_at : (p : Place) (number : ℕ) → p.line ≡ number → p.column ≡ 1 → p ≡ line_start number
begins_at p number line column = rw (line, column) refl

pub wrong_on : (line : List ℕ) (number : ℕ) (c d : Cursor) (e : BadText) → IsOn line number c d → InText d.source e → WrongAt line (line_start number) e
wrong_on line number c d e on h =
    wrong_at c.source line (line_start number) e on.bytes (begins_at c.source.start number on.on on.from) (subst (λ (z : Source). InText z e) on.same h)

-- The first byte of a line that is no space.
pub first_at : (s h : Cursor) (line : List ℕ) (number : ℕ) → h.source ≡ s.source → h.at ≡ past s → s.at ≡ 0 → left_of s ≡ line → s.source.start ≡ line_start number
    → place_of h ≡ first_place line number
first_at s h line number same at start left begins =
    let gone : spaces_first (left_of s) ≡ spaces_first line = ap spaces_first left in
    let here : h.at ≡ spaces_first line = omega (arith, at, start, gone) in
    ap (λ (z : Source). place_from z.start h.at) same ∙ ap (λ z. place_from z h.at) begins ∙ ap (place_from (line_start number)) here

-- What is left at the start of a text is the whole.
pub all_left : (s : Cursor) (given : Source) (text : List ℕ) → s.at ≡ 0 → s.source ≡ given → given.bytes.now ≡ text → left_of s ≡ text
all_left s given text at same bytes = ap (λ k. drop k s.source.bytes.now) at ∙ ap (λ (z : Source). z.bytes.now) same ∙ bytes

-- ---- where a word and a sign stand

-- Past the spaces of one place what is left is what is left at the other.
pub left_past : (c h : Cursor) → h.source ≡ c.source → h.at ≡ past c → left_of h ≡ drop (past c) c.source.bytes.now
left_past c h same at = ap (λ (z : Source). drop h.at z.bytes.now) same ∙ ap (λ k. drop k c.source.bytes.now) at

pub word_between : (c h d : Cursor) (w : List ℕ) → h.source ≡ c.source → h.at ≡ past c → left_of h ≡ w ++ left_of d → d.at ≡ h.at + length w
    → AllByRecursion (λ b. ends_word b ≡ false) w → WordOver (left_of d) → WordBetween c.source.bytes.now c.at w d.at
word_between c h d w same at is to whole over = record {
  first = record { rest = left_of d; is = sym (left_past c h same at) ∙ is; whole = whole; over = over };
  ends = to ∙ ap (λ k. k + length w) at;
}

pub sign_between : (c h d : Cursor) (b : ℕ) → h.source ≡ c.source → h.at ≡ past c → First b (left_of h) → d.at ≡ h.at + 1 → SignBetween c.source.bytes.now c.at b d.at
sign_between c h d b same at first to = record {
  first = subst (First b) (left_past c h same at) first;
  ends = to ∙ ap (λ k. k + 1) at;
}

pub first_is : (bs : List ℕ) (b : ℕ) → 0 < length bs → get_or bs 0 0 ≡ b → First b bs
first_is [] b some e = omega (arith, some)
first_is (x ∷ bs) b some e = e
