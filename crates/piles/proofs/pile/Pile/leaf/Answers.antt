use Rattle.piles.proofs.Stacking.{leaf_made}
use Rattle.piles.proofs.pile.Pile.leaf.Goals as goal

pub returns : goal.returns
returns g c = leaf_made g.C.Coding.means g.C.Coding.lawful c.args.coding
