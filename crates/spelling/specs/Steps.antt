-- The code's own steps: what a width and a part leave of a reading.
use Rattle.std.specs.Prelude.{ℕ, ◌+◌, true, false, List, replicate, Some, None, Ok, Err, Result, slice_set}
use Rattle.spelling.specs.declared.parts.Parts.{Parts}
use Rattle.spelling.specs.declared.command.Part.{Part as PartT}
use Rattle.spelling.specs.declared.fault.Fault.{Fault}
use Rattle.spelling.specs.Reading.{Reading}
use Rattle.spelling.specs.Commands.{place_of, part_operands}
use Rattle.spelling.specs.Turns.{blank, with_width, part_fault, put_part, operand}

-- The parts with one more, or what is wrong with its operand.
abbrev pub found : List ℕ → Reading → PartT → Result Parts Fault
found bytes s p =
    elim (part_fault s.parts.width p (operand bytes s.at (part_operands p))) [
      | Some why ↦ Err (record { reason = why; offset = s.at })
      | None ↦ Ok (put_part p (operand bytes s.at (part_operands p)) s.parts)
    ]

-- The reading after a part.
abbrev pub noted : Reading → PartT → Parts → Reading
noted s p parts = record { at = s.at + 1 + part_operands p; given = slice_set s.given (place_of p) true; parts = parts }

-- The reading after W and a width.
abbrev pub after_width : ℕ → Reading
after_width n = record { at = 2; given = replicate 9 false; parts = with_width n blank }
