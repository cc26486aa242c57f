-- The reader by its turns: what a turn leads to.
use Rattle.std.proofs.Common.{◌≡◌, ℕ, zero, suc, ◌+◌, List, length, Ok, Err, Result}
use Rattle.spelling.specs.declared.parts.Parts.{Parts}
use Rattle.spelling.specs.declared.fault.Fault.{Fault}
use Rattle.spelling.specs.Reading.{Reading, More, Done}
use Rattle.spelling.specs.declared.fault.Reason.TheVariants.{NoByte}
use Rattle.spelling.specs.Turns.{start, turn}

-- The reader, by at most k commands.
unfoldable pub run : ℕ → List ℕ → Reading → Result Parts Fault
run zero bytes s = Err (record { reason = NoByte; offset = s.at })
run (suc k) bytes s = elim (turn bytes s) [ Err f ↦ Err f | Ok t ↦ elim t [ Done p ↦ Ok p | More next ↦ run k bytes next ] ]

-- Each command has a byte, so that there are no more of them than bytes.
abbrev pub read_parts : List ℕ → Result Parts Fault
read_parts bytes = run (length bytes + 1) bytes start

pub run_fails : (k : ℕ) (bytes : List ℕ) (s : Reading) (f : Fault) → turn bytes s ≡ Err f → run (suc k) bytes s ≡ Err f
unfolding run
run_fails k bytes s f e = rw (run, e)

pub run_ends : (k : ℕ) (bytes : List ℕ) (s : Reading) (p : Parts) → turn bytes s ≡ Ok (Done p) → run (suc k) bytes s ≡ Ok p
unfolding run
run_ends k bytes s p e = rw (run, e)

pub run_goes : (k : ℕ) (bytes : List ℕ) (s next : Reading) → turn bytes s ≡ Ok (More next) → run (suc k) bytes s ≡ run k bytes next
unfolding run
run_goes k bytes s next e = rw (run, e)
