-- What is said of releases themselves, by their plain numbers, and of codings that are lent, by what they mean.
use Rattle.std.specs.Prelude.{List, map, Ok, Err, Result}
use Rattle.meanings.specs.Meaning.{Meaning}
use Rattle.book.specs.declared.call.Answer.{Answer}
use Rattle.book.specs.declared.call.Call.{Call}
use Rattle.book.specs.declared.refusal.Refusal.{Refusal}
use Rattle.book.specs.declared.row.Row.{Row}
use Rattle.release.specs.Calls.{CallDone}
use Rattle.release.specs.Listed.{asked_of}
use Rattle.release.specs.Promises.{ListDone}
use Rattle.release.specs.Views.{meanings_of}
use Rattle.release.specs.declared.column_codings.ColumnCodings.{ColumnCodings}
use Rattle.release.specs.declared.plain.Plain.{Plain}
use Rattle.release.specs.declared.states.Open.{Open}
use Rattle.release.specs.declared.states.Release.{Release}

-- What opening hands out.
abbrev pub plain_of : Result (Release Open) Refusal → Result Plain Refusal
plain_of (Ok o) = Ok o.plain
plain_of (Err e) = Err e

module _ {Y H : Type 0} (y : Y → Meaning) (h : H → Meaning) (codings : ColumnCodings Y H) (o : Release Open) (memory : List Row) where
  -- a call on the open release o, and a list of calls
  abbrev pub CallMade : Call → Result Answer Refusal → Release Open → List Row → Type 0
  CallMade call r o' memory' = CallDone o.plain memory (meanings_of y h codings) (asked_of call) r o'.plain memory'

  abbrev pub ListMade : List Call → List (Result Answer Refusal) → Release Open → List Row → Type 0
  ListMade calls told o' memory' = ListDone o.plain memory (meanings_of y h codings) (map asked_of calls) told o'.plain memory'
