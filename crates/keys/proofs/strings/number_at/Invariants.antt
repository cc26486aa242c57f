use Rattle.std.proofs.Common.{◌≡◌, ◌+◌, ◌-◌}
use Rattle.flows.specs.Strings.{byte_bit, number_at}
use Rattle.keys.proofs.strings.number_at.Given as goal

abbrev pub invariant-loop-i : goal.invariant-loop-i
invariant-loop-i l = l.number ≡ number_at (byte_bit l.bytes) (l.from + l.i) (l.bits - l.i)
