-- Rows of boxes undo each other where their boxes do.
use Rattle.std.proofs.Common.{◌≡◌, ℕ, ◌+◌, ◌*◌, ◌/◌, ◌%◌, ◌^◌, ◌<◌, List, [], ◌∷◌, ap, ◌∙◌, arith}
use Rattle.std.specs.List.{AllByRecursion}
use Rattle.std.proofs.lemmas.Nat.{pow_pos, pow-add, mod_below, shr_below, shr_high, mod_low, shr_split, mul-add-lt}
use Rattle.field.specs.Widths.{low_part}
use Rattle.boxes.specs.Boxes.{Undone, Boxed, layer, bits_of}
use Rattle.boxes.specs.Kinds.{turned_boxed}

-- the upper boxes and the lowest
upper : (m k a b : ℕ) → a < 2 ^ m → b < 2 ^ k → b * 2 ^ m + a < 2 ^ (m + k)
upper m k a b ha hb = rw (pow-add 2 m k) (mul-add-lt b (2 ^ m) a (2 ^ k) hb ha)

pub layer_lt : (f g : ℕ → ℕ → ℕ → ℕ) → Boxed f g → (p : ℕ) (ms : List ℕ) → AllByRecursion (λ m. 0 < low_part m) ms → (x : ℕ) → x < 2 ^ bits_of ms → layer f p ms x < 2 ^ bits_of ms
unfolding layer
layer_lt f g boxed p [] fields x h = omega arith
layer_lt f g boxed p (m ∷ ms) fields x h =
    upper m (bits_of ms) (f p m (x % 2 ^ m)) (layer f (p + m) ms (x / 2 ^ m))
    ((boxed p m fields.0).within (x % 2 ^ m) (mod_below x (2 ^ m) (pow_pos m)))
    (layer_lt f g boxed (p + m) ms fields.1 (x / 2 ^ m) (high m (bits_of ms) x h))
  where
    high : (m k x : ℕ) → x < 2 ^ (m + k) → x / 2 ^ m < 2 ^ k
    high m k x h = let e : m + k ≡ k + m = omega arith in shr_below x k m (rw e at h)

pub layer_undoes : (f g : ℕ → ℕ → ℕ → ℕ) → Boxed f g → (p : ℕ) (ms : List ℕ) → AllByRecursion (λ m. 0 < low_part m) ms → (x : ℕ) → x < 2 ^ bits_of ms
    → layer g p ms (layer f p ms x) ≡ x
unfolding layer
layer_undoes f g boxed p [] fields x h = omega arith
layer_undoes f g boxed p (m ∷ ms) fields x h =
    let small = mod_below x (2 ^ m) (pow_pos m) in
    let a = (boxed p m fields.0).within (x % 2 ^ m) small in
    let e : m + bits_of ms ≡ bits_of ms + m = omega arith in
    let up = shr_below x (bits_of ms) m (rw e at h) in
    ap (λ z. layer g (p + m) ms z * 2 ^ m + g p m ((layer f (p + m) ms (x / 2 ^ m) * 2 ^ m + f p m (x % 2 ^ m)) % 2 ^ m))
    (shr_high (layer f (p + m) ms (x / 2 ^ m)) m (f p m (x % 2 ^ m)) a)
    ∙ ap (λ z. layer g (p + m) ms (layer f (p + m) ms (x / 2 ^ m)) * 2 ^ m + g p m z) (mod_low (layer f (p + m) ms (x / 2 ^ m)) m (f p m (x % 2 ^ m)) a)
    ∙ ap (λ z. z * 2 ^ m + g p m (f p m (x % 2 ^ m))) (layer_undoes f g boxed (p + m) ms fields.1 (x / 2 ^ m) up)
    ∙ ap (λ z. x / 2 ^ m * 2 ^ m + z) ((boxed p m fields.0).undoes (x % 2 ^ m) small)
    ∙ shr_split x m

pub layer_undone : (f g : ℕ → ℕ → ℕ → ℕ) → Boxed f g → (ms : List ℕ) → AllByRecursion (λ m. 0 < low_part m) ms → Undone (bits_of ms) (layer f 0 ms) (layer g 0 ms)
layer_undone f g boxed ms fields =
    record {
      within = layer_lt f g boxed 0 ms fields;
      lands = layer_lt g f (turned_boxed f g boxed) 0 ms fields;
      undoes = layer_undoes f g boxed 0 ms fields;
      redoes = layer_undoes g f (turned_boxed f g boxed) 0 ms fields;
    }
