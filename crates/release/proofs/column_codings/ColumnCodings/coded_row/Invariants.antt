use Rattle.std.proofs.Common.{length}
use Rattle.release.specs.Views.{meanings_of}
use Rattle.release.proofs.Columnwise.{Coded}
use Rattle.release.proofs.column_codings.ColumnCodings.coded_row.Given as goal

abbrev pub invariant-loop-j : goal.invariant-loop-j
invariant-loop-j g l = Coded (meanings_of g.Y.Coding.means g.H.Coding.means l.self) l.columns l.numbers (length l.yielded) l.codes
