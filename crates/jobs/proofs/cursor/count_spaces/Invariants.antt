use Rattle.std.proofs.Common.{◌≡◌, ◌+◌, drop}
use Rattle.jobs.specs.Signs.{spaces_first, squeezed, words}
use Rattle.jobs.proofs.cursor.count_spaces.Given as goal

abbrev pub invariant-loop-i : goal.invariant-loop-i
invariant-loop-i l = record {
  first : spaces_first l.bytes ≡ l.i + spaces_first (drop l.i l.bytes);
  blank : squeezed (drop l.i l.bytes) ≡ squeezed l.bytes;
  apart : words (drop l.i l.bytes) ≡ words l.bytes;
}
