use Rattle.field.proofs.Chaining.{Reached}
use Rattle.field.proofs.field.Field.ones.Given as goal

abbrev pub invariant-loop-i : goal.invariant-loop-i
invariant-loop-i l = Reached l.self.width l.self.low l.k l.a l.i l.power
