use Rattle.std.proofs.Common.{◌+◌, ◌*◌}
use Rattle.jobs.proofs.parse.+parser.Given as goal

abbrev pub decreases-pile : goal.decreases-pile
decreases-pile l = 3 * l.depth

abbrev pub decreases-inside : goal.decreases-inside
decreases-inside l = 3 * l.depth + 2

abbrev pub decreases-chain : goal.decreases-chain
decreases-chain l = 3 * l.depth + 1

abbrev pub decreases-turned : goal.decreases-turned
decreases-turned l = 3 * l.depth + 1

abbrev pub decreases-narrowed : goal.decreases-narrowed
decreases-narrowed l = 3 * l.depth + 1
