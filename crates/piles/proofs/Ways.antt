-- The narrowing loop of a pile, on either way through it.
use Rattle.std.proofs.Common.{◌≡◌, ℕ, ◌<◌, ◌≤◌, min, Ok, sym, refl, ap, ◌∙◌}
use Rattle.meanings.specs.Meaning.{Meaning, Lawful}
use Rattle.meanings.specs.Layers.{narrowed}
use Rattle.meanings.specs.Piles.{Pile, meaning}
use Rattle.meanings.proofs.Narrowing.{turned_lawful}
use Rattle.meanings.proofs.Piles.{pile_lawful}
use Rattle.meanings.proofs.Walking.{On, left}
use Rattle.codings.specs.Asking.{coded}
use Rattle.piles.specs.Trees.{facing}
use Rattle.piles.specs.declared.tree.Way.{Way}
use Rattle.piles.specs.declared.tree.Way.TheVariants.{There, Back}
use Rattle.codings.proofs.Answering.{Walks, walk_begins, walk_again, walk_less}

facing_lawful : (w : Way) (m : Meaning) → Lawful m → Lawful (facing w m)
facing_lawful There m l = l
facing_lawful Back m l = turned_lawful m l

facing_top : (w : Way) (m : Meaning) → (facing w m).top ≡ m.top
facing_top There m = refl
facing_top Back m = refl

facing_narrowed : (w : Way) (t : ℕ) (m : Meaning) (x : ℕ) → coded (narrowed t (facing w m)) x ≡ coded (facing w (narrowed t m)) x
facing_narrowed There t m x = refl
facing_narrowed Back t m x = refl

-- What the loop keeps, where m is the coding below and n the narrowed one, both met on the way w.
abbrev pub GoesOn : (top : ℕ) (m n : Meaning) (x y : ℕ) → Type 0
GoesOn top m n x y = On top m x y × (y ≤ top → Ok y ≡ coded n x)

-- p is the pile below, b its top, t what it is narrowed to and top the new top; n is the narrowed pile's meaning.
module _ (w : Way) (t b top : ℕ) (p : Pile) (n : Meaning) (is : n ≡ narrowed t (meaning p)) (below : b ≡ (meaning p).top) (least : top ≡ min t b) (x : ℕ) (low : x ≤ top) where
  abbrev Goes : ℕ → Type 0
  Goes y = GoesOn top (facing w (meaning p)) (facing w n) x y

  onward : (y : ℕ) → Walks t top (facing w (meaning p)) x y → Goes y
  onward y on = (on.0, λ small. on.1 small ∙ facing_narrowed w t (meaning p) x ∙ ap (λ m. coded (facing w m) x) (sym is))

  sound : Lawful (facing w (meaning p))
  sound = facing_lawful w (meaning p) (pile_lawful p)

  new : top ≡ min t (facing w (meaning p)).top
  new = least ∙ ap (min t) (below ∙ sym (facing_top w (meaning p)))

  pub way_begins : (y : ℕ) → Ok y ≡ coded (facing w (meaning p)) x → Goes y
  way_begins y e = onward y (walk_begins t top (facing w (meaning p)) sound new x low y e)

  pub way_again : (v y : ℕ) → top < v → Ok y ≡ coded (facing w (meaning p)) v → Goes v → Goes y
  way_again v y above e before = onward y (walk_again t top (facing w (meaning p)) sound new x low v y above e before.0)

  pub way_less : (v y : ℕ) → top < v → Ok y ≡ coded (facing w (meaning p)) v → Goes v → left top (facing w (meaning p)) y < left top (facing w (meaning p)) v
  way_less v y above e before = walk_less t top (facing w (meaning p)) sound new x low v y above e before.0
