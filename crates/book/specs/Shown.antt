-- What calls and answers read as.
use Rattle.std.specs.Prelude.{ℕ, List, ◌++◌, Some, Option, codes}
use Rattle.std.specs.Fmt.{decimal, debug_list, ◌++?◌}
use Rattle.book.specs.declared.call.Answer.{Answer}
use Rattle.book.specs.declared.call.Answer.TheVariants.{Put, Withdrawn, Shown, TurnedBack, Tally}
use Rattle.book.specs.declared.call.Call.{Call}
use Rattle.book.specs.declared.call.Call.TheVariants.{Put as ToPut, Withdraw, Show, TurnBack, Tally as ToTally}
use Rattle.book.specs.declared.entry.Entry.{Entry}

abbrev pub entry_text : Entry → List ℕ
entry_text e = codes "row " ++ (decimal e.row ++ (codes " column " ++ decimal e.column))

-- the places taken, and the rows standing
abbrev pub tally_text : ℕ × ℕ → List ℕ
tally_text t = decimal t.0 ++ (codes " places taken, " ++ (decimal t.1 ++ codes " rows standing"))

abbrev pub call_text : Call → Option (List ℕ)
call_text (ToPut numbers) = Some (codes "put ") ++? debug_list (λ n. Some (decimal n)) numbers.now
call_text (Withdraw row) = Some (codes "withdraw row " ++ decimal row)
call_text (Show e) = Some (codes "show " ++ entry_text e)
call_text (TurnBack e) = Some (codes "turn back " ++ entry_text e)
call_text ToTally = Some (codes "tally")

abbrev pub answer_text : Answer → List ℕ
answer_text (Put row) = codes "row " ++ decimal row
answer_text Withdrawn = codes "done"
answer_text (Shown code) = codes "code " ++ decimal code
answer_text (TurnedBack number) = codes "number " ++ decimal number
answer_text (Tally t) = tally_text t
