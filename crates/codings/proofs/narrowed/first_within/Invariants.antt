use Rattle.meanings.proofs.Walking.{left}
use Rattle.codings.proofs.Answering.{Walks}
use Rattle.codings.proofs.narrowed.first_within.Given as goal

abbrev pub invariant-loop-y : goal.invariant-loop-y
invariant-loop-y g l = Walks l.to l.top (g.A.Coding.means l.below) l.x l.y

abbrev pub decreases-loop-y : goal.decreases-loop-y
decreases-loop-y g l = left l.top (g.A.Coding.means l.below) l.y
