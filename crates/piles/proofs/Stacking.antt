-- What is known of a pile just made, from what it was made of.
use Rattle.std.proofs.Common.{◌≡◌, ℕ, Box, refl, subst}
use Rattle.std.specs.declared.alloc.Global.{Global}
use Rattle.meanings.specs.Meaning.{Meaning, Lawful}
use Rattle.meanings.proofs.Narrowing.{narrowed_is}
use Rattle.meanings.proofs.Lawful.{chained_is, turned_is, each_once}
use Rattle.meanings.proofs.Piles.{pile_lawful}
use Rattle.piles.specs.Trees.{layers, tree_meaning}
use Rattle.piles.specs.Stacking.{LeafMade, ChainMade, TurnedMade, NarrowedMade}
use Rattle.piles.specs.declared.tree.Tree.{Tree, Chain, Turned, Narrowed}
use Rattle.piles.specs.declared.tree.Tree.TheVariants.{Leaf}

module _ {C : Type 0} (means : C → Meaning) (lawful : (c : C) → Lawful (means c)) where
  sound : (p : Tree C) → Lawful (tree_meaning means lawful p)
  sound p = pile_lawful (layers means lawful p)

  pub leaf_made : (c : C) → LeafMade means lawful c (Leaf c)
  leaf_made c = record { pile = refl; tall = refl; once = each_once _ (sound (Leaf c)) }

  pub chain_made : (a b : Tree C) (first then : Box (Tree C) Global) → first.value ≡ a → then.value ≡ b → ChainMade means lawful a b (Chain first then)
  chain_made a b first then e f =
      subst (λ s. ChainMade means lawful s b (Chain first then)) e
      (subst (λ s. ChainMade means lawful first.value s (Chain first then)) f
      (record {
        pile = refl;
        tall = refl;
        rule = chained_is _ _;
        once = each_once _ (sound (Chain first then));
      }))

  pub turned_made : (a : Tree C) (below : Box (Tree C) Global) → below.value ≡ a → TurnedMade means lawful a (Turned below)
  turned_made a below e =
      subst (λ s. TurnedMade means lawful s (Turned below)) e
      (record {
        pile = refl;
        tall = refl;
        rule = turned_is _ (sound below.value);
        once = each_once _ (sound (Turned below));
      })

  pub narrowed_made : (t : ℕ) (a : Tree C) (below : Box (Tree C) Global) → below.value ≡ a → NarrowedMade means lawful t a (Narrowed below t)
  narrowed_made t a below e =
      subst (λ s. NarrowedMade means lawful t s (Narrowed below t)) e
      (record {
        pile = refl;
        tall = refl;
        rule = narrowed_is t _ (sound below.value);
        once = each_once _ (sound (Narrowed below t));
      })
