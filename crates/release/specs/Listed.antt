-- Lists of calls, by what the calls are given.
use Rattle.std.specs.Prelude.{List}
use Rattle.book.specs.declared.call.Call.{Call}
use Rattle.book.specs.declared.call.Call.TheVariants.{Put, Withdraw, Show, TurnBack, Tally}
use Rattle.book.specs.declared.row.Row.{Row}
use Rattle.book.specs.Asked.{Asked, put, withdraw, show, turn_back, tally}
use Rattle.book.specs.Runs.{State}
use Rattle.release.specs.declared.plain.Plain.{Plain}

abbrev pub asked_of : Call → Asked
asked_of (Put numbers) = put numbers.now
asked_of (Withdraw row) = withdraw row
asked_of (Show entry) = show entry
asked_of (TurnBack entry) = turn_back entry
asked_of Tally = tally

abbrev pub state_of : Plain → List Row → State
state_of o memory = record { taken = o.taken; memory = memory }
