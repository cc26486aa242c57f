-- Both flows undo their decryptions, and are the chains of their steps.
use Rattle.std.proofs.Common.{◌≡◌, ℕ, ◌-◌, ◌^◌, ◌<◌, ◌≤◌, max, List, refl, ap, ◌∙◌, arith}
use Rattle.std.proofs.lemmas.Nat.{pow_pos}
use Rattle.bits.specs.Orders.{IsOrder, moved, gathered}
use Rattle.bits.specs.Words.{wrapped_sum, wrapped_difference}
use Rattle.bits.specs.Listed.{order}
use Rattle.bits.specs.declared.order.Order.{Order}
use Rattle.bits.proofs.Orders.{sound_order, order_moved_below, order_gathered_below, undoes}
use Rattle.boxes.specs.Boxes.{Undone, Boxed, flex_box}
use Rattle.boxes.specs.Kinds.{after, xor_undone, sum_undone, flex_boxed}
use Rattle.boxes.specs.Layouts.{layout}
use Rattle.boxes.proofs.Layouts.{layout_cut}
use Rattle.boxes.proofs.Rows.{rows_undone}
use Rattle.meanings.specs.Layers.{chained, turned, stretched}
use Rattle.meanings.specs.Meaning.{Meaning, Lawful, Equal}
use Rattle.meanings.proofs.Lawful.{stretched_in}
use Rattle.flows.specs.Flows.{Setting, Kind, through_boxes, flex_encrypt, flex_decrypt, cpa_encrypt, cpa_decrypt}
use Rattle.flows.specs.Steps.{block, flex_steps, cpa_steps}

-- A width with boxes, orders of it, and a last round key that fits.
pub record Fits (s : Setting) : Type 0 where
  pub least : 24 ≤ s.width
  pub most : s.width ≤ 64
  pub o0 : IsOrder s.width s.order0
  pub o1 : IsOrder s.width s.order1
  pub o2 : IsOrder s.width s.order2
  pub o3 : IsOrder s.width s.order3
  pub small : s.k2 < 2 ^ s.width

pub order_undone : (n : ℕ) (r : List ℕ) → IsOrder n r → Undone n (moved r) (gathered r)
order_undone n r o =
    let u = undoes n r o in
    record { within = λ x h. order_moved_below n r o x; lands = λ y h. order_gathered_below n r o y; undoes = u.back; redoes = u.again }

-- An order by its fields is one.
pub order_is : (o : Order) → IsOrder o.size.bits (order o)
order_is o = let long = o.long in let fits = o.size.fits in sound_order o.size.bits o.places (omega arith) o.sound

pub boxes_undone : (n : ℕ) → 24 ≤ n → n ≤ 64 → (f g : Kind) → Boxed f g → Undone n (through_boxes n f) (through_boxes n g)
boxes_undone n a b f g u = rows_undone n (layout n) (layout_cut n a b) f g u

-- up to the top is below the power
pub below : (n x : ℕ) → x ≤ 2 ^ n - 1 → x < 2 ^ n
below n x h = let p = pow_pos n in omega arith

pub within : (n x : ℕ) → x < 2 ^ n → x ≤ 2 ^ n - 1
within n x h = omega arith

pub block_lawful : (n : ℕ) (f g : ℕ → ℕ) → Undone n f g → Lawful (block n f g)
block_lawful n f g u =
    record {
      within = λ x h. within n (f x) (u.within x (below n x h));
      lands = λ y h. within n (g y) (u.lands y (below n y h));
      undoes = λ x h. u.undoes x (below n x h);
      redoes = λ y h. u.redoes y (below n y h);
    }

-- A chain of steps m that comes to f and back by g.
pub record Comes (n : ℕ) (m : Meaning) (f g : ℕ → ℕ) : Type 0 where
  pub undone : Undone n f g
  pub top : m.top ≡ 2 ^ n - 1
  pub rules : (x : ℕ) → x < 2 ^ n → m.rule x ≡ f x
  pub backs : (y : ℕ) → y < 2 ^ n → m.back y ≡ g y

pub one : (n : ℕ) (f g : ℕ → ℕ) → Undone n f g → Comes n (block n f g) f g
one n f g u = record { undone = u; top = refl; rules = λ x h. refl; backs = λ y h. refl }

-- one step more in front
pub link : (n : ℕ) (f g : ℕ → ℕ) (m : Meaning) (f' g' : ℕ → ℕ) → Undone n f g → Comes n m f' g'
    → Comes n (chained (block n f g) m) (λ x. f' (f x)) (λ y. g (g' y))
link n f g m f' g' u c =
    record {
      undone = after n f g f' g' u c.undone;
      top = top;
      rules = λ x h. ap (stretched m) (stretched_in (block n f g) x (within n x h)) ∙ stretched_in m (f x) (up (f x) (u.within x h)) ∙ c.rules (f x) (u.within x h);
      backs = λ y h.
          ap (stretched (turned (block n f g))) (stretched_in (turned m) y (up y h) ∙ c.backs y h)
          ∙ stretched_in (turned (block n f g)) (g' y) (within n (g' y) (c.undone.lands y h));
    }
  where
    top : max (2 ^ n - 1) m.top ≡ 2 ^ n - 1
    top = let t = c.top in omega arith

    up : (x : ℕ) → x < 2 ^ n → x ≤ m.top
    up x h = let t = c.top in omega arith

pub equal : (n : ℕ) (m : Meaning) (f g : ℕ → ℕ) → Comes n m f g → Equal m (block n f g)
equal n m f g c =
    record {
      same = record { tops = c.top; rules = λ x h. c.rules x (down x h) };
      backs = record { backs = λ y h. c.backs y (down y h) };
    }
  where
    down : (x : ℕ) → x ≤ m.top → x < 2 ^ n
    down x h = let t = c.top in let p = pow_pos n in omega arith

module _ (s : Setting) (fits : Fits s) where
  adds : (k : ℕ) → Undone s.width (λ x. wrapped_sum s.width x k) (λ y. wrapped_difference s.width y k)
  adds k = sum_undone s.width k

  boxes : (f g : Kind) → Boxed f g → Undone s.width (through_boxes s.width f) (through_boxes s.width g)
  boxes = boxes_undone s.width fits.least fits.most

  pub flex_comes : Comes s.width (flex_steps s) (flex_encrypt s) (flex_decrypt s)
  flex_comes =
      let n = s.width in
      let sbox = boxes flex_box flex_box flex_boxed in
      link n _ _ _ _ _ (adds s.c0)
      (link n _ _ _ _ _ (adds s.k0)
      (link n _ _ _ _ _ (order_undone n s.order0 fits.o0)
      (link n _ _ _ _ _ sbox
      (link n _ _ _ _ _ (order_undone n s.order1 fits.o1)
      (link n _ _ _ _ _ (adds s.k1)
      (link n _ _ _ _ _ (order_undone n s.order2 fits.o2)
      (link n _ _ _ _ _ sbox
      (link n _ _ _ _ _ (order_undone n s.order3 fits.o3)
      (one n _ _ (xor_undone n s.k2 fits.small))))))))))

  pub cpa_comes : (f0 f1 f2 g0 g1 g2 : Kind) → Boxed f0 g0 → Boxed f1 g1 → Boxed f2 g2
      → Comes s.width (cpa_steps s f0 f1 f2 g0 g1 g2) (cpa_encrypt s f0 f1 f2) (cpa_decrypt s g0 g1 g2)
  cpa_comes f0 f1 f2 g0 g1 g2 b0 b1 b2 =
      let n = s.width in
      link n _ _ _ _ _ (adds s.c0)
      (link n _ _ _ _ _ (adds s.k0)
      (link n _ _ _ _ _ (order_undone n s.order0 fits.o0)
      (link n _ _ _ _ _ (boxes f0 g0 b0)
      (link n _ _ _ _ _ (adds s.k1)
      (link n _ _ _ _ _ (order_undone n s.order1 fits.o1)
      (link n _ _ _ _ _ (boxes f1 g1 b1)
      (link n _ _ _ _ _ (adds s.k2)
      (link n _ _ _ _ _ (order_undone n s.order2 fits.o2)
      (link n _ _ _ _ _ (boxes f2 g2 b2)
      (one n _ _ (xor_undone n (moved s.order3 s.k2) (order_moved_below n s.order3 fits.o3 s.k2))))))))))))
