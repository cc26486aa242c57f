-- The loop over a row of boxes: what is left gives the whole.
use Rattle.std.proofs.Common.{◌≡◌, ℕ, zero, suc, ◌+◌, ◌-◌, ◌*◌, ◌/◌, ◌%◌, ◌^◌, ◌<◌, ◌≤◌, ◌⊎◌, Some, None, Option, MatchOption, List, [], ◌∷◌, length, get_or, ltb, is_some, IfSome, Bor, drop, replicate, sym, refl, ap, ◌∙◌, subst, inr, mul_assoc, add-mul, arith, pow_mono}
use Rattle.std.proofs.lemmas.Simd.{get_or-replicate, length-replicate}
use Rattle.boxes.specs.declared.row.Boxes.{Boxes}
use Rattle.boxes.specs.declared.shape.Shape.{Shape}
use Rattle.boxes.specs.Layouts.{layout, widths, Cut}
use Rattle.boxes.proofs.Table.{table}
use Rattle.boxes.proofs.Layouts.{layout_cut, shape_right}
use Rattle.std.proofs.lemmas.Nat.{pow-add, mul-add-lt, shl_whole}
use Rattle.std.proofs.lemmas.List.{drop_more, drop_all}
use Rattle.std.proofs.lemmas.Bool.{ltb-true, ltb-false}
use Rattle.std.specs.Option.{option_copied}
use Rattle.std.specs.List.{AllByRecursion}
use Rattle.field.specs.Widths.{low_part}
use Rattle.boxes.specs.Boxes.{Undone, Boxed, layer, bits_of, flex_box, cpa_box, cpa_box_back, Rows}
use Rattle.boxes.specs.Kinds.{flex_boxed, cpa_boxed}
use Rattle.boxes.proofs.Layers.{layer_undone}

pub record Rowed (f : ℕ → ℕ → ℕ → ℕ) (n : ℕ) (ms : List ℕ) (x i place left out : ℕ) : Type 0 where
  pub at : place + bits_of (drop i ms) ≡ n
  pub below : out < 2 ^ place
  pub is : layer f place (drop i ms) left * 2 ^ place + out ≡ layer f 0 ms x

pub rowed_start : (f : ℕ → ℕ → ℕ → ℕ) (n : ℕ) (ms : List ℕ) (x : ℕ) → bits_of ms ≡ n → Rowed f n ms x 0 0 x 0
rowed_start f n ms x e =
    let one : layer f 0 ms x * 2 ^ 0 + 0 ≡ layer f 0 ms x = omega arith in
    record { at = omega (arith, e); below = omega arith; is = one }

pub rowed_more : (f : ℕ → ℕ → ℕ → ℕ) (n : ℕ) (ms : List ℕ) (x i place left out m v : ℕ) → Rowed f n ms x i place left out → i < length ms → m ≡ get_or ms i 0
    → v ≡ f place m (left % 2 ^ m) → v < 2 ^ m → Rowed f n ms x (i + 1) (place + m) (left / 2 ^ m) (out + v * 2 ^ place)
unfolding layer
rowed_more f n ms x i place left out m v r h em ev small =
    let split : drop i ms ≡ m ∷ drop (i + 1) ms = drop_more ms i 0 h ∙ ap (λ z. z ∷ drop (i + 1) ms) (sym em) in
    let at = rw split at r.at in
    let is = rw split at r.is in
    let l = layer f (place + m) (drop (i + 1) ms) (left / 2 ^ m) in
    let e : place + m ≡ m + place = omega arith in
    let spread : (l * 2 ^ m + v) * 2 ^ place ≡ l * 2 ^ (place + m) + v * 2 ^ place =
    add-mul (l * 2 ^ m) v (2 ^ place) ∙ ap (λ z. z + v * 2 ^ place) (mul_assoc l (2 ^ m) (2 ^ place) ∙ ap (λ z. l * z) (sym (pow-add 2 m place) ∙ ap (λ z. 2 ^ z) (sym e))) in
    let was : (l * 2 ^ m + v) * 2 ^ place + out ≡ layer f 0 ms x = ap (λ z. (l * 2 ^ m + z) * 2 ^ place + out) ev ∙ is in
    record {
      at = omega (arith, at);
      below = omega (arith, mul-add-lt v (2 ^ place) out (2 ^ m) small r.below, pow-add 2 place m);
      is = omega (arith, spread, was);
    }

pub rowed_end : (f : ℕ → ℕ → ℕ → ℕ) (n : ℕ) (ms : List ℕ) (x i place left out : ℕ) → Rowed f n ms x i place left out → length ms ≤ i → (out ≡ layer f 0 ms x) × (out < 2 ^ n)
unfolding layer
rowed_end f n ms x i place left out r h =
    let none : drop i ms ≡ [] = drop_all i ms h in
    let at = rw none at r.at in
    let is = rw none at r.is in
    let all : place ≡ n = omega (arith, at) in
    let empty : 0 * 2 ^ place ≡ 0 = omega arith in
    (omega (arith, is, empty), rw all at r.below)

-- every box but the lowest is of the one width
pub wide_at : (s : Shape) (i : ℕ) → (i ≡ 0 → ⊥) → i < s.count → s.wide ≡ get_or (widths s) i 0
wide_at s zero some h = absurd (some refl)
wide_at s (suc i) some h = sym (get_or-replicate (s.count - 1) i s.wide 0 (omega arith))

pub bits_replicate : (k w : ℕ) → bits_of (replicate k w) ≡ k * w
bits_replicate zero w = omega arith
bits_replicate (suc k) w = let e = bits_replicate k w in let f : suc k * w ≡ w + k * w = omega arith in ap (λ z. w + z) e ∙ sym f

pub length_widths : (n : ℕ) (s : Shape) → Cut n s → length (widths s) ≡ s.count
length_widths n s cut = let e = length-replicate (s.count - 1) s.wide in omega (arith, e, cut.some)

pub bits_widths : (n : ℕ) (s : Shape) → Cut n s → bits_of (widths s) ≡ n
bits_widths n s cut = ap (λ z. s.last + z) (bits_replicate (s.count - 1) s.wide) ∙ cut.whole

-- the next box fits
pub room : (f : ℕ → ℕ → ℕ → ℕ) (n : ℕ) (ms : List ℕ) (x i place left out m : ℕ) → Rowed f n ms x i place left out → i < length ms → m ≡ get_or ms i 0 → place + m ≤ n
room f n ms x i place left out m r h em =
    let split : drop i ms ≡ m ∷ drop (i + 1) ms = drop_more ms i 0 h ∙ ap (λ z. z ∷ drop (i + 1) ms) (sym em) in
    let at = rw split at r.at in
    omega (arith, at)

all_replicate : (k w : ℕ) → (0 < k → 0 < low_part w) → AllByRecursion (λ m. 0 < low_part m) (replicate k w)
all_replicate zero w h = tt
all_replicate (suc k) w h = (h (omega arith), all_replicate k w (λ _. h (omega arith)))

pub rows_undone : (n : ℕ) (s : Shape) → Cut n s → (f g : ℕ → ℕ → ℕ → ℕ) → Boxed f g → Undone n (layer f 0 (widths s)) (layer g 0 (widths s))
rows_undone n s cut f g boxed =
    let fields : AllByRecursion (λ m. 0 < low_part m) (widths s) = (cut.last, all_replicate (s.count - 1) s.wide (λ some. cut.wide (omega arith))) in
    subst (λ z. Undone z (layer f 0 (widths s)) (layer g 0 (widths s))) (bits_widths n s cut) (layer_undone f g boxed (widths s) fields)

pub cut_rows : (n : ℕ) (s : Shape) → Cut n s → Rows n (widths s)
cut_rows n s cut =
    record {
      whole = bits_widths n s cut;
      flex = rows_undone n s cut flex_box flex_box flex_boxed;
      cpa = λ r0 r1. rows_undone n s cut (cpa_box r0 r1) (cpa_box_back r0 r1) (cpa_boxed r0 r1);
    }

-- The next box of a row, of which the code knows the number of bits.
pub record Next (b : Boxes) (i place bits : ℕ) : Type 0 where
  pub here : i < length (widths (layout b.size))
  pub width : bits ≡ get_or (widths (layout b.size)) i 0
  pub room : place + bits ≤ 64

pub next : (b : Boxes) (f : ℕ → ℕ → ℕ → ℕ) (x i place left out bits m : ℕ) → i < b.count → m ≡ get_or (widths (layout b.size)) i 0 → bits ≡ m
    → Rowed f b.size (widths (layout b.size)) x i place left out → Next b i place bits
next b f x i place left out bits m hi em same r =
    let long = length_widths b.size (layout b.size) (layout_cut b.size b.least b.fits) in
    let here : i < length (widths (layout b.size)) = omega (arith, long, b.number, hi) in
    let width = same ∙ em in
    let most = room f b.size (widths (layout b.size)) x i place left out bits r here width in
    record { here = here; width = width; room = omega (arith, most, b.fits) }

-- what the code shifts and adds stays whole
pub shifted : (place m v : ℕ) → place + m ≤ 64 → v < 2 ^ m → v * 2 ^ place % 2 ^ 64 ≡ v * 2 ^ place
shifted place m v h small = shl_whole v m place 64 small (omega arith)

pub added : (place m v out : ℕ) → place + m ≤ 64 → v < 2 ^ m → out < 2 ^ place → out + v * 2 ^ place < 2 ^ 64
added place m v out far small below =
    let wider : 2 ^ (place + m) ≤ 2 ^ 64 = pow_mono {j = 64} far in
    omega (arith, mul-add-lt v (2 ^ place) out (2 ^ m) small below, pow-add 2 place m, wider)

-- what is found in the table for a width
pub row_at : (o : Option (Bor Shape)) (n i : ℕ) → 24 ≤ n → i ≡ n - 24 → is_some o ≡ ltb i 41 → IfSome o (λ s. s.now ≡ get_or table i s.now)
    → MatchOption (option_copied o) ((n < 24) ⊎ (64 < n)) (λ s. (24 ≤ n) × (n ≤ 64) × (s ≡ layout n) × Cut n s × Rows n (widths s))
row_at None n i least at some is = inr (let far : 41 ≤ i = ltb-false i 41 (sym some) in omega arith)
row_at (Some b) n i least at some is =
    let most : n ≤ 64 = (let here : i < 41 = ltb-true i 41 (sym some) in omega arith) in
    let right = shape_right n b.now least most in
    let same : b.now ≡ get_or table (n - 24) b.now = is ∙ ap (λ z. get_or table z b.now) at in
    let cut : Cut n b.now = subst (Cut n) (sym same) right.1 in
    (least, most, same ∙ right.0, cut, cut_rows n b.now cut)
