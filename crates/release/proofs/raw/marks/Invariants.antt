use Rattle.std.proofs.Common.{◌≡◌, take}
use Rattle.book.specs.Raw.{count_marks}
use Rattle.release.proofs.raw.marks.Given as goal

abbrev pub invariant-loop-record : goal.invariant-loop-record
invariant-loop-record l = l.standing ≡ count_marks (take l.record-index l.records)
