use Rattle.release.proofs.Letters.{Read}
use Rattle.release.proofs.columns.Columns.read.Given as goal

abbrev pub invariant-loop-j : goal.invariant-loop-j
invariant-loop-j l = Read l.letters l.j l.roles
