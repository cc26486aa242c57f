use Rattle.std.proofs.Common.{take}
use Rattle.jobs.specs.Parsed.{texts, Lacking}
use Rattle.jobs.proofs.parse.place_of.Given as goal

abbrev pub invariant-loop-place : goal.invariant-loop-place
invariant-loop-place l = record { lacking : Lacking l.fn.name (take l.place (texts l.fn.names)) }
