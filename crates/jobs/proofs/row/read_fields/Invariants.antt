use Rattle.std.proofs.Common.{◌≡◌, length}
use Rattle.jobs.specs.Places.{rest_of}
use Rattle.jobs.proofs.Rowing.{SoFar, Stood}
use Rattle.jobs.proofs.row.read_fields.Given as goal

abbrev pub invariant-loop-next : goal.invariant-loop-next
invariant-loop-next l = record { same : l.cursor.source ≡ l.initial.cursor.source; so_far : SoFar (rest_of l.initial.cursor) l.numbers.items l.cursor; stood : Stood l.initial.cursor.source.bytes.now l.numbers.items l.cursor }

abbrev pub decreases-loop-next : goal.decreases-loop-next
decreases-loop-next l = length (rest_of l.cursor)
