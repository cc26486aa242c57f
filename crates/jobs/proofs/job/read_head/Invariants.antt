use Rattle.std.proofs.Common.{◌≡◌, length, map}
use Rattle.jobs.specs.Heads.{RightSoFar}
use Rattle.jobs.proofs.job.read_head.Given as goal

abbrev pub invariant-loop-line : goal.invariant-loop-line
invariant-loop-line l = record { count : l.lines ≡ length l.yielded; good : RightSoFar (map (λ x. x.now) l.yielded) l.found }
