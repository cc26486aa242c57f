-- The numbers before the index are codes, and those from it on are as they were.
use Rattle.std.proofs.Common.{◌≡◌, ◌++◌, map, take, drop}
use Rattle.clib.proofs.numbers.code_each.Given as goal

abbrev pub invariant-loop-x : goal.invariant-loop-x
invariant-loop-x g l = l.numbers ≡ map (g.C.Coding.means l.coding).rule (take l.x-index l.initial.numbers) ++ drop l.x-index l.initial.numbers
