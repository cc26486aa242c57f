-- The code's own steps: one command of a draft, the questions in their sequence, of which the first no decides, and what it
-- leads to.
use Rattle.std.specs.Prelude.{ℕ, zero, suc, ◌+◌, ◌^◌, Bool, true, false, cond, not, ◌&&◌, ◌||◌, List, length, take, drop, replicate, Some, None, Ok, Err, Option, Result, ◌==◌, nat_le, nat_lt, slice_index, slice_index_or, slice_set}
use Rattle.bits.specs.Orders.{fault_at}
use Rattle.spelling.specs.declared.parts.Flow.TheVariants.{Flex}
use Rattle.spelling.specs.declared.parts.Parts.{Parts}
use Rattle.spelling.specs.declared.command.Part.{Part as PartT}
use Rattle.spelling.specs.declared.command.Part.TheVariants.{Flow, C0, C1, Order}
use Rattle.spelling.specs.declared.command.Command.{Command}
use Rattle.spelling.specs.declared.command.Command.TheVariants.{Width, Part, End}
use Rattle.spelling.specs.declared.fault.Fault.{Fault}
use Rattle.spelling.specs.declared.fault.Reason.{Reason}
use Rattle.spelling.specs.declared.fault.Reason.TheVariants.{NoByte, NoCommand, OutOfSequence, NoUse, BadWidth, TooLarge, NoOrder, Missing, GoesOn}
use Rattle.spelling.specs.Reading.{Reading, Turn, More, Done}
use Rattle.spelling.specs.Commands.{command_of, index_of, place_of, operands_of, part_operands, has_use, number, order_size}

-- A question: where the answer is no, the fault; where it is yes, what comes next.
abbrev pub ask : {X : Type 0} → Bool → Reason → ℕ → Result X Fault → Result X Fault
ask true why at rest = rest
ask false why at rest = Err (record { reason = why; offset = at })

-- Before the first command: nothing was given, and everything is zero.
abbrev pub blank : Parts
blank = record { width = 0; flow = Flex; c0 = 0; c1 = 0; orders = replicate 6 (replicate 64 0) }

abbrev pub start : Reading
start = record { at = 0; given = replicate 9 false; parts = blank }

-- W first and never later, and each part once.
abbrev pub in_sequence : Reading → Command → Bool
in_sequence s Width = s.at == 0
in_sequence s (Part p) = nat_lt 0 s.at && not (slice_index_or s.given (place_of p) false)
in_sequence s End = nat_lt 0 s.at

-- The bytes of the operand of a command at an offset.
abbrev pub operand : List ℕ → ℕ → ℕ → List ℕ
operand bytes at k = take k (drop (at + 1) bytes)

-- The first place from i on, of k, at which a list is no order of a size.
unfoldable pub first_fault : ℕ → List ℕ → ℕ → ℕ → Option ℕ
first_fault n list zero i = None
first_fault n list (suc k) i = elim (fault_at n list i) [ true ↦ Some i | false ↦ first_fault n list k (suc i) ]

-- What is wrong with the operand of a part, if anything.
abbrev pub part_fault : ℕ → PartT → List ℕ → Option Reason
part_fault n (Flow f) os = None
part_fault n C0 os = cond (nat_lt (number os) (2 ^ n)) None (Some TooLarge)
part_fault n C1 os = None
part_fault n (Order k) os = elim (first_fault (order_size n (index_of k)) os (length os) 0) [ None ↦ None | Some p ↦ Some (NoOrder p) ]

-- The parts with one more.
abbrev pub put_part : PartT → List ℕ → Parts → Parts
put_part (Flow f) os p = record { width = p.width; flow = f; c0 = p.c0; c1 = p.c1; orders = p.orders }
put_part C0 os p = record { width = p.width; flow = p.flow; c0 = number os; c1 = p.c1; orders = p.orders }
put_part C1 os p = record { width = p.width; flow = p.flow; c0 = p.c0; c1 = number os; orders = p.orders }
put_part (Order k) os p = record { width = p.width; flow = p.flow; c0 = p.c0; c1 = p.c1; orders = slice_set p.orders (index_of k) os }

abbrev pub with_width : ℕ → Parts → Parts
with_width n p = record { width = n; flow = p.flow; c0 = p.c0; c1 = p.c1; orders = p.orders }

-- Whether every part that the width needs was given: always the flow, C0 and the orders 0 to 3, and above 32 bits also C1 and
-- the orders 4 and 5.
abbrev pub has : List Bool → ℕ → Bool
has given k = slice_index_or given k false

abbrev pub always : List Bool → Bool
always given = has given 0 && (has given 1 && (has given 3 && (has given 4 && (has given 5 && has given 6))))

abbrev pub above : List Bool → Bool
above given = has given 2 && (has given 7 && has given 8)

abbrev pub complete : ℕ → List Bool → Bool
complete n given = always given && (nat_le n 32 || above given)

-- What a command does once its operand is there.
abbrev pub after : List ℕ → Reading → Command → Result Turn Fault
after bytes s Width =
    ask (nat_le 24 (slice_index bytes (s.at + 1)) && nat_le (slice_index bytes (s.at + 1)) 64) BadWidth s.at
    (Ok (More (record { at = s.at + 2; given = s.given; parts = with_width (slice_index bytes (s.at + 1)) s.parts })))
after bytes s (Part p) =
    elim (part_fault s.parts.width p (operand bytes s.at (part_operands p))) [
      | Some why ↦ Err (record { reason = why; offset = s.at })
      | None ↦ Ok (More (record {
        at = s.at + 1 + part_operands p;
        given = slice_set s.given (place_of p) true;
        parts = put_part p (operand bytes s.at (part_operands p)) s.parts;
      }))
    ]
after bytes s End =
    ask (complete s.parts.width s.given) Missing s.at (
    ask (s.at + 1 == length bytes) GoesOn (s.at + 1) (Ok (Done s.parts)))

-- The questions that are put to a command once it is known.
abbrev pub given_command : List ℕ → Reading → Command → Result Turn Fault
given_command bytes s c =
    ask (in_sequence s c) OutOfSequence s.at (
    ask (has_use s.parts.width c) NoUse s.at (
    ask (nat_lt (s.at + operands_of c) (length bytes)) NoByte s.at (after bytes s c)))

-- The command at an offset: is it a command letter?
abbrev pub command_at : List ℕ → ℕ → Result Command Fault
command_at bytes at = elim (command_of (slice_index bytes at)) [ None ↦ Err (record { reason = NoCommand; offset = at }) | Some c ↦ Ok c ]

-- One command.
abbrev pub turn : List ℕ → Reading → Result Turn Fault
turn bytes s =
    ask (nat_lt s.at (length bytes)) NoByte s.at (
    elim (command_at bytes s.at) [ Err f ↦ Err f | Ok c ↦ given_command bytes s c ])
