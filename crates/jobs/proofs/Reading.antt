-- What is read part by part is what the whole spells.
use Rattle.std.proofs.Common.{◌≡◌, ℕ, zero, suc, ◌+◌, ◌<◌, ◌≤◌, Box, Bool, true, false, String, length, take, drop, get_or, map, List, [], ◌∷◌, ◌++◌, Some, Ok, Err, Result, MatchResult, refl, ap, sym, subst, ◌∙◌, append_assoc, append-nil, add-one, inl, inr, arith}
use Rattle.std.proofs.lemmas.List.{length-map, map_push, take_all}
use Rattle.std.proofs.lemmas.Option.{slice_get-map, slice_get_read}
use Rattle.std.proofs.lemmas.Slice.Eq.{bytes_eq-Decides}
use Rattle.std.specs.Option.{option_map}
use Rattle.std.specs.Prelude.{slice_get, string_bytes}
use Rattle.std.specs.Str.{bytes_eq}
use Rattle.std.specs.declared.alloc.Global.{Global}
use Rattle.jobs.proofs.Faults.{wrong_at}
use Rattle.jobs.specs.Faults.{InText, Parses}
use Rattle.jobs.specs.Places.{After, NumberRead, rest_of}
use Rattle.jobs.specs.Signs.{squeezed}
use Rattle.jobs.specs.Parsed.{EachOnce, Grown, Lacking, Placed, Inside, Said, PileRead, InsideRead, NameRead, called, form_name, form_of}
use Rattle.jobs.specs.Refused.{height}
use Rattle.jobs.specs.declared.cursor.Cursor.{Cursor}
use Rattle.jobs.specs.declared.cursor.Source.{Source}
use Rattle.jobs.specs.declared.parse.Form.{Form}
use Rattle.jobs.specs.declared.parse.Form.TheVariants as form
use Rattle.jobs.specs.declared.place.BadText.{BadText}
use Rattle.jobs.specs.declared.place.Place.{Place}
use Rattle.jobs.specs.declared.written.Written.{Written, Chain, Turned, Narrowed}
use Rattle.jobs.specs.declared.written.Written.TheVariants.{Clear, Plus, Cipher, Chain', Turned', Narrowed'}

-- ---- texts one behind the other

pub after_two : (c d e f : Cursor) (s t : List ℕ) → After c d s → After d e (44 ∷ []) → After e f t → After c f (s ++ (44 ∷ t))
after_two c d e f s t p q r = record {
  same = r.same ∙ q.same ∙ p.same;
  text = p.text ∙ ap (λ z. s ++ z) (q.text ∙ ap (λ z. 44 ∷ z) r.text) ∙ sym (append_assoc s (44 ∷ t) (rest_of f));
}

bracketed : (word inside r : List ℕ) → word ++ (40 ∷ (inside ++ (41 ∷ r))) ≡ (word ++ (40 ∷ (inside ++ (41 ∷ [])))) ++ r
bracketed word inside r =
    ap (λ z. word ++ (40 ∷ z)) (sym (append_assoc inside (41 ∷ []) r)) ∙ sym (append_assoc word (40 ∷ (inside ++ (41 ∷ []))) r)

after_brackets : (a b c d e f : Cursor) (word inside : List ℕ) → After a b [] → After b c word → After c d (40 ∷ []) → After d e inside → After e f (41 ∷ [])
    → After a f (word ++ (40 ∷ (inside ++ (41 ∷ []))))
after_brackets a b c d e f word inside p q r s t = record {
  same = t.same ∙ s.same ∙ r.same ∙ q.same ∙ p.same;
  text = p.text ∙ q.text ∙ ap (λ z. word ++ z) (r.text ∙ ap (λ z. 40 ∷ z) (s.text ∙ ap (λ z. inside ++ z) t.text)) ∙ bracketed word inside (rest_of f);
}

-- ---- lists of names that grow

get_more : (xs more : List (List ℕ)) (i : ℕ) (a : List ℕ) → slice_get xs i ≡ Some a → slice_get (xs ++ more) i ≡ Some a
get_more [] more i a h = cc
get_more (x ∷ xs) more zero a h = h
get_more (x ∷ xs) more (suc i) a h = get_more xs more i a h

inside_more : (xs more : List (List ℕ)) (s : List ℕ) (w : Written) → Inside xs s w → Inside (xs ++ more) s w
inside_more xs more s (Clear t) h = h
inside_more xs more s (Plus t k) h = h
inside_more xs more s (Cipher d k) (a, b, is, p, q) = (a, b, is, get_more xs more d a p, get_more xs more k b q)
inside_more xs more s (Chain' x first y then) (a, b, is, p, q) = (a, b, is, inside_more xs more a first p, inside_more xs more b then q)
inside_more xs more s (Turned' x below) (a, is, p) = (a, is, inside_more xs more a below p)
inside_more xs more s (Narrowed' x below to) (a, b, is, p, q) = (a, b, is, inside_more xs more a below p, q)

pub inside_grown : (xs ys : List (List ℕ)) (s : List ℕ) (w : Written) → Grown xs ys → Inside xs s w → Inside ys s w
inside_grown xs ys s w g h = subst (λ z. Inside z s w) (sym g.is) (inside_more xs g.more s w h)

pub grown_twice : (xs ys zs : List (List ℕ)) → Grown xs ys → Grown ys zs → Grown xs zs
grown_twice xs ys zs g h = record {
  more = g.more ++ h.more;
  is = h.is ∙ ap (λ z. z ++ h.more) g.is ∙ append_assoc xs g.more h.more;
  once = λ k. h.once (g.once k);
}

-- ---- what stands in brackets

pub clear_read : (c d : Cursor) (t : ℕ) → NumberRead c d t → (names : List (List ℕ)) → InsideRead names 1 form.Clear c d (Clear t)
clear_read c d t h names = record { text = h.digits; after = h.word.after; named = refl; inside = h.number; low = omega arith }

pub plus_read : (c d e f : Cursor) (t k : ℕ) → NumberRead c d t → After d e (44 ∷ []) → NumberRead e f k → (names : List (List ℕ))
    → InsideRead names 1 form.Plus c f (Plus t k)
plus_read c d e f t k h comma i names = record {
  text = h.digits ++ (44 ∷ i.digits);
  after = after_two c d e f h.digits i.digits h.word.after comma i.word.after;
  named = refl;
  inside = (h.digits, i.digits, refl, h.number, i.number);
  low = omega arith;
}

pub cipher_read : (xs ys : List (List ℕ)) → Grown xs ys → (c d e f : Cursor) (i k : ℕ) → NameRead xs c d i → After d e (44 ∷ []) → NameRead ys e f k
    → InsideRead ys 1 form.KCipher c f (Cipher i k)
cipher_read xs ys g c d e f i k p comma q = record {
  text = p.name ++ (44 ∷ q.name);
  after = after_two c d e f p.name q.name p.after comma q.after;
  named = refl;
  inside = (p.name, q.name, refl, subst (λ z. slice_get z i ≡ Some p.name) (sym g.is) (get_more xs g.more i p.name p.named), q.named);
  low = omega arith;
}

pub chain_read : (xs ys : List (List ℕ)) → Grown xs ys → (n : ℕ) (c d e f : Cursor) (a b : Written) (first then : Box Written Global)
    → first.value ≡ a → then.value ≡ b → PileRead xs n c d a → After d e (44 ∷ []) → PileRead ys n e f b → InsideRead ys (n + 1) form.Chain c f (Chain first then)
chain_read xs ys g n c d e f a b first then u v p comma q =
    let p' : PileRead xs n c d first.value = subst (λ z. PileRead xs n c d z) (sym u) p in
    let q' : PileRead ys n e f then.value = subst (λ z. PileRead ys n e f z) (sym v) q in
    let low1 : height first.value ≤ n = p'.low in
    let low2 : height then.value ≤ n = q'.low in
    record {
      text = p'.text ++ (44 ∷ q'.text);
      after = after_two c d e f p'.text q'.text p'.after comma q'.after;
      named = refl;
      inside = (
        p'.spelt.within,
        q'.spelt.within,
        ap (λ z. z ++ (44 ∷ q'.text)) p'.spelt.is ∙ ap (λ z. called (form_of first.value) p'.spelt.within ++ (44 ∷ z)) q'.spelt.is,
        inside_grown xs ys _ first.value g p'.spelt.inside,
        q'.spelt.inside,
      );
      low = omega (arith, low1, low2);
    }

pub turned_read : (xs : List (List ℕ)) (n : ℕ) (c d : Cursor) (a : Written) (below : Box Written Global) → below.value ≡ a → PileRead xs n c d a
    → InsideRead xs (n + 1) form.Turned c d (Turned below)
turned_read xs n c d a below u p =
    let p' : PileRead xs n c d below.value = subst (λ z. PileRead xs n c d z) (sym u) p in
    let low1 : height below.value ≤ n = p'.low in
    record { text = p'.text; after = p'.after; named = refl; inside = (p'.spelt.within, p'.spelt.is, p'.spelt.inside); low = omega (arith, low1) }

pub narrowed_read : (xs : List (List ℕ)) (n : ℕ) (c d e f : Cursor) (a : Written) (below : Box Written Global) (to : ℕ) → below.value ≡ a
    → PileRead xs n c d a → After d e (44 ∷ []) → NumberRead e f to → InsideRead xs (n + 1) form.Narrowed c f (Narrowed below to)
narrowed_read xs n c d e f a below to u p comma q =
    let p' : PileRead xs n c d below.value = subst (λ z. PileRead xs n c d z) (sym u) p in
    let low1 : height below.value ≤ n = p'.low in
    record {
      text = p'.text ++ (44 ∷ q.digits);
      after = after_two c d e f p'.text q.digits p'.after comma q.word.after;
      named = refl;
      inside = (p'.spelt.within, q.digits, ap (λ z. z ++ (44 ∷ q.digits)) p'.spelt.is, p'.spelt.inside, q.number);
      low = omega (arith, low1);
    }

-- ---- a pile

pub pile_read : (xs : List (List ℕ)) (n m : ℕ) (g : Form) (word : List ℕ) (a b c d e f : Cursor) (w : Written) → After a b [] → After b c word → word ≡ form_name g
    → After c d (40 ∷ []) → InsideRead xs m g d e w → m ≡ n → After e f (41 ∷ []) → PileRead xs n a f w
pile_read xs n m g word a b c d e f w p q is r s same t =
    let name : word ≡ form_name (form_of w) = is ∙ ap form_name (sym s.named) in
    let here : List ℕ → Type 0 = λ z. After a f (z ++ (40 ∷ (s.text ++ (41 ∷ [])))) in
    let low1 : height w ≤ m = s.low in
    record {
      text = called (form_of w) s.text;
      after = subst here name (after_brackets a b c d e f word s.text p q r s.after t);
      spelt = record { within = s.text; is = refl; inside = s.inside };
      low = omega (arith, low1);
    }

-- ---- names in a list

-- The text at a place of a list of strings.
text_at : (v : List (String Global)) (i : ℕ) (s : String Global) (t : List ℕ) → i < length v → s ≡ get_or v i s → t ≡ string_bytes s
    → slice_get (map string_bytes v) i ≡ Some t
text_at v i s t low is text = slice_get-map string_bytes v i ∙ ap (option_map string_bytes) (slice_get_read v (length v) i s refl low is) ∙ ap Some (sym text)

lacking_more : (xs : List (List ℕ)) (i : ℕ) (x name : List ℕ) → slice_get xs i ≡ Some x → (x ≡ name → ⊥) → Lacking name (take i xs) → Lacking name (take (suc i) xs)
lacking_more [] i x name e other h = cc
lacking_more (y ∷ ys) zero x name e other h = (λ k. other (let same : y ≡ x = cc in sym same ∙ k), tt)
lacking_more (y ∷ ys) (suc i) x name e other h = (h.0, lacking_more ys i x name e other h.1)

unequal : (t name : List ℕ) (r : Bool) → r ≡ bytes_eq t name → r ≡ false → t ≡ name → ⊥
unequal t name r same fails e = let k : true ≡ false = sym ((bytes_eq-Decides t name).1 e) ∙ sym same ∙ fails in cc

-- A name that is not the one at i either.
pub lacking_next : (v : List (String Global)) (i : ℕ) (s : String Global) (t name : List ℕ) (r : Bool) → i < length v → s ≡ get_or v i s → t ≡ string_bytes s
    → r ≡ bytes_eq t name → r ≡ false → Lacking name (take i (map string_bytes v)) → Lacking name (take (i + 1) (map string_bytes v))
lacking_next v i s t name r low is text same fails h =
    rw add-one (lacking_more (map string_bytes v) i t name (text_at v i s t low is text) (unequal t name r same fails) h)

pub name_at : (v : List (String Global)) (i : ℕ) (s : String Global) (t name : List ℕ) (r : Bool) → i < length v → s ≡ get_or v i s → t ≡ string_bytes s
    → r ≡ bytes_eq t name → r ≡ true → slice_get (map string_bytes v) i ≡ Some name
name_at v i s t name r low is text same holds =
    let equal : t ≡ name = (bytes_eq-Decides t name).0 (sym same ∙ holds) in
    text_at v i s t low is text ∙ ap Some equal

get_last : (xs : List (List ℕ)) (name : List ℕ) → slice_get (xs ++ (name ∷ [])) (length xs) ≡ Some name
get_last [] name = refl
get_last (x ∷ xs) name = get_last xs name

pub placed_named : (old new : List (List ℕ)) (name : List ℕ) (i : ℕ) → Placed old new name i → slice_get new i ≡ Some name
placed_named old new name i (inl (at, same)) = ap (λ z. slice_get z i) same ∙ at
placed_named old new name i (inr (lacking, end, more)) = ap (λ z. slice_get z i) more ∙ ap (slice_get (old ++ (name ∷ []))) end ∙ get_last old name

pub placed_new : (v w : List (String Global)) (s : String Global) (name : List ℕ) (i k : ℕ) → w ≡ v ++ (s ∷ []) → string_bytes s ≡ name → i ≡ length v
    → length v ≤ k → Lacking name (take k (map string_bytes v)) → Placed (map string_bytes v) (map string_bytes w) name i
placed_new v w s name i k pushed text end low h =
    let long : length (map string_bytes v) ≡ length v = length-map v string_bytes in
    let all : take k (map string_bytes v) ≡ map string_bytes v = take_all k (map string_bytes v) (omega (arith, long, low)) in
    inr (
      subst (λ z. Lacking name z) all h,
      end ∙ sym long,
      ap (map string_bytes) pushed ∙ map_push string_bytes v s ∙ ap (λ z. map string_bytes v ++ (z ∷ [])) text,
    )

lacking_last : (names : List (List ℕ)) (x name : List ℕ) → Lacking x names → (name ≡ x → ⊥) → Lacking x (names ++ (name ∷ []))
lacking_last [] x name h other = (other, tt)
lacking_last (y ∷ names) x name h other = (h.0, lacking_last names x name h.1 other)

once_last : (names : List (List ℕ)) (name : List ℕ) → EachOnce names → Lacking name names → EachOnce (names ++ (name ∷ []))
once_last [] name h lacking = (tt, tt)
once_last (x ∷ names) name h lacking = (lacking_last names x name h.0 (λ e. lacking.0 (sym e)), once_last names name h.1 lacking.1)

grown_same : (old new : List (List ℕ)) → new ≡ old → Grown old new
grown_same old new e = record { more = []; is = e ∙ sym (append-nil old); once = λ k. subst EachOnce (sym e) k }

pub placed_grown : (old new : List (List ℕ)) (name : List ℕ) (i : ℕ) → Placed old new name i → Grown old new
placed_grown old new name i (inl (at, same)) = grown_same old new same
placed_grown old new name i (inr (lacking, end, more)) = record {
  more = name ∷ [];
  is = more;
  once = λ k. subst EachOnce (sym more) (once_last old name k lacking);
}

-- ---- a text from its start

pub from_start : (names : List (List ℕ)) (n : ℕ) (r : Result Written BadText) (c : Cursor) (s : Source) (text : List ℕ) (p : Place) → c.source ≡ s → c.at ≡ 0
    → s.bytes.now ≡ text → s.start ≡ p → MatchResult r (λ w. Said names n (rest_of c) w) (λ e. InText c.source e) → Parses names n text p r
from_start names n (Ok w) c s text p same at bytes start h =
    let all : rest_of c ≡ squeezed text = ap (λ k. squeezed (drop k c.source.bytes.now)) at ∙ ap (λ z. squeezed z.bytes.now) same ∙ ap squeezed bytes in
    subst (λ z. Said names n z w) all h
from_start names n (Err e) c s text p same at bytes start h =
    wrong_at c.source text p e (ap (λ (z : Source). z.bytes.now) same ∙ bytes) (ap (λ (z : Source). z.start) same ∙ start) h
