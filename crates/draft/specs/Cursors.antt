-- The command at a cursor, and its operand.
use Rattle.std.specs.Prelude.{ℕ, ◌+◌, List, length, Some, None, Ok, Err, Result, nat_lt}
use Rattle.spelling.specs.declared.command.Command.{Command}
use Rattle.spelling.specs.declared.command.Part.{Part as PartT}
use Rattle.spelling.specs.declared.fault.Fault.{Fault}
use Rattle.spelling.specs.declared.fault.Reason.TheVariants.{NoByte}
use Rattle.spelling.specs.Commands.{part_operands, number}
use Rattle.spelling.specs.Turns.{ask, command_at, operand, part_fault}
use Rattle.draft.specs.declared.cursor.Cursor.{Cursor}

-- Is there a byte, and is it a command letter?
abbrev pub command_from : Cursor → Result Command Fault
command_from p = ask (nat_lt p.at (length p.bytes.now)) NoByte p.at (command_at p.bytes.now p.at)

-- Are all bytes of the operand there? If so, what comes of them.
abbrev pub with_operand : {X : Type 0} → Cursor → ℕ → (List ℕ → Result X Fault) → Result X Fault
with_operand p k next = ask (nat_lt (p.at + k) (length p.bytes.now)) NoByte p.at (next (operand p.bytes.now p.at k))

-- The operand of a part, if it is there and nothing is wrong with it at a width.
abbrev pub right_operand : Cursor → ℕ → PartT → Result (List ℕ) Fault
right_operand p n part =
    with_operand p (part_operands part) (λ os. elim (part_fault n part os) [
      | Some why ↦ Err (record { reason = why; offset = p.at })
      | None ↦ Ok os
    ])

abbrev pub as_number : Result (List ℕ) Fault → Result ℕ Fault
as_number (Ok os) = Ok (number os)
as_number (Err f) = Err f
