use Rattle.std.proofs.Common.{◌≡◌, ◌-◌, length}
use Rattle.spelling.proofs.Looping.{Kept}
use Rattle.draft.specs.Readers.{reading_of}
use Rattle.draft.proofs.read.parts_of.Given as goal

abbrev pub invariant-loop-parts : goal.invariant-loop-parts
invariant-loop-parts l = record { of : l.reader.cursor.bytes.now ≡ l.bytes; kept : Kept l.bytes (reading_of l.reader) }

abbrev pub decreases-loop-parts : goal.decreases-loop-parts
decreases-loop-parts l = length l.bytes - l.reader.cursor.at
