use Rattle.std.proofs.Common.{◌≡◌, ◌++◌, false, take, drop}
use Rattle.std.specs.List.{AllByRecursion}
use Rattle.jobs.specs.Signs.{squeezed, ends_word}
use Rattle.jobs.proofs.cursor.count_word.Given as goal

abbrev pub invariant-loop-i : goal.invariant-loop-i
invariant-loop-i l = record {
  first : squeezed l.bytes ≡ take l.i l.bytes ++ squeezed (drop l.i l.bytes);
  whole : AllByRecursion (λ b. ends_word b ≡ false) (take l.i l.bytes);
}
