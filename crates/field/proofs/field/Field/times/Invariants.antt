use Rattle.std.proofs.Common.{◌≡◌, ◌-◌, ◌*◌, ◌/◌, ◌^◌}
use lib.Bits.{bit_xor}
use Rattle.field.specs.Polynomials.{product}
use Rattle.field.proofs.field.Field.times.Given as goal

-- what is left of the product
abbrev pub invariant-loop-i : goal.invariant-loop-i
invariant-loop-i l = bit_xor l.sum (product (l.i-end - l.i) (l.a * 2 ^ l.i) (l.b / 2 ^ l.i)) ≡ product l.i-end l.a l.b
