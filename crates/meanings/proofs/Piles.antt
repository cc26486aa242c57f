-- Every pile is a lawful coding, by induction on its layers; the rest follows for any lawful codings.
use Rattle.std.proofs.Common.{ℕ}
use Rattle.meanings.specs.Meaning.{Meaning, Lawful}
use Rattle.meanings.specs.Layers.{chained, turned, narrowed}
use Rattle.meanings.specs.Piles.{Pile, leaf, chain_of, turn_of, narrow_of, meaning, EveryPile, AnyThree}
use Rattle.meanings.proofs.Narrowing.{turned_lawful, narrowed_lawful, narrowed_is}
use Rattle.meanings.proofs.Lawful.{chained_lawful, chained_is, turned_is, each_once}
use Rattle.meanings.proofs.Equality.{equality}
use Rattle.meanings.proofs.Laws.{laws}

pub pile_lawful : (p : Pile) → Lawful (meaning p)
pile_lawful (leaf m l) = l
pile_lawful (chain_of p q) = chained_lawful (meaning p) (meaning q) (pile_lawful p) (pile_lawful q)
pile_lawful (turn_of p) = turned_lawful (meaning p) (pile_lawful p)
pile_lawful (narrow_of t p) = narrowed_lawful t (meaning p) (pile_lawful p)

pub every_pile : EveryPile
every_pile =
    record {
      chain = λ p q. chained_is (meaning p) (meaning q);
      turn = λ p. turned_is (meaning p) (pile_lawful p);
      narrow = λ t p. narrowed_is t (meaning p) (pile_lawful p);
      lawful = pile_lawful;
      once = λ p. each_once (meaning p) (pile_lawful p);
      laws = λ p q r t u. laws (meaning p) (meaning q) (meaning r) (pile_lawful p) t u;
      equality = equality;
    }

pub any_three : (a b c : Meaning) → Lawful a → Lawful b → (t u : ℕ) → AnyThree a b c t u
any_three a b c la lb t u =
    record {
      chain = chained_is a b;
      turn = turned_is a la;
      narrow = narrowed_is t a la;
      once = each_once a la;
      chain_once = each_once (chained a b) (chained_lawful a b la lb);
      turn_once = each_once (turned a) (turned_lawful a la);
      narrow_once = each_once (narrowed t a) (narrowed_lawful t a la);
      laws = laws a b c la t u;
      same_reflexive = equality.reflexive a;
      same_symmetric = equality.symmetric a b;
      same_transitive = equality.transitive a b c;
      same_chain = λ s. (equality.chain a c b c s (equality.reflexive c), equality.chain c a c b (equality.reflexive c) s);
      same_turn = equality.turn a b la lb;
      same_narrow = equality.narrow t a b la lb;
      same_back = equality.backs a b la lb;
    }
