use Rattle.std.proofs.Common.{◌≡◌}
use Rattle.field.specs.Fields.{squared}
use Rattle.field.proofs.field.Field.squared.Given as goal

abbrev pub invariant-loop : goal.invariant-loop
invariant-loop l = l.power ≡ squared l.self.width l.self.low l.counter l.a
