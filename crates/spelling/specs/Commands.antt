-- The commands of a draft: their letters, the bytes of their operands, and which widths have a use for them.
use Rattle.std.specs.Prelude.{◌≡◌, ℕ, ◌+◌, Bool, true, cond, ◌||◌, List, Some, None, Option, Result, MatchResult, ◌==◌, nat_lt}
use Rattle.std.specs.Simd.Lanes.{number_l}
use Rattle.spelling.specs.declared.parts.Flow.TheVariants.{Flex, Cpa}
use Rattle.spelling.specs.declared.command.OrderName.{OrderName}
use Rattle.spelling.specs.declared.command.OrderName.TheVariants.{R0, R1, R2, R3, R4, R5}
use Rattle.spelling.specs.declared.command.Part.{Part as PartT}
use Rattle.spelling.specs.declared.command.Part.TheVariants.{Flow, C0, C1, Order}
use Rattle.spelling.specs.declared.command.Command.{Command}
use Rattle.spelling.specs.declared.command.Command.TheVariants.{Width, Part, End}
use Rattle.spelling.specs.declared.fault.Reason.{Reason}
use Rattle.spelling.specs.declared.fault.Reason.TheVariants.{NoCommand}

-- W is 87, F 70, P 80, A 65, B 66, the digits 0 to 5 are 48 to 53, and Z is 90.
abbrev pub command_of : ℕ → Option Command
command_of l =
    cond (l == 87) (Some Width) (
    cond (l == 70) (Some (Part (Flow Flex))) (
    cond (l == 80) (Some (Part (Flow Cpa))) (
    cond (l == 65) (Some (Part C0)) (
    cond (l == 66) (Some (Part C1)) (
    cond (l == 48) (Some (Part (Order R0))) (
    cond (l == 49) (Some (Part (Order R1))) (
    cond (l == 50) (Some (Part (Order R2))) (
    cond (l == 51) (Some (Part (Order R3))) (
    cond (l == 52) (Some (Part (Order R4))) (
    cond (l == 53) (Some (Part (Order R5))) (
    cond (l == 90) (Some End) None)))))))))))

-- The command of a letter, or that it is none.
abbrev pub ReadAs : ℕ → Result Command Reason → Type 0
ReadAs l r = MatchResult r (λ c. command_of l ≡ Some c) (λ why. (command_of l ≡ None) × (why ≡ NoCommand))

abbrev pub index_of : OrderName → ℕ
index_of R0 = 0
index_of R1 = 1
index_of R2 = 2
index_of R3 = 3
index_of R4 = 4
index_of R5 = 5

abbrev pub letter_of : PartT → ℕ
letter_of (Flow Flex) = 70
letter_of (Flow Cpa) = 80
letter_of C0 = 65
letter_of C1 = 66
letter_of (Order k) = 48 + index_of k

abbrev pub command_letter : Command → ℕ
command_letter Width = 87
command_letter (Part p) = letter_of p
command_letter End = 90

-- Each part's place among the nine; F and P count as one.
abbrev pub place_of : PartT → ℕ
place_of (Flow f) = 0
place_of C0 = 1
place_of C1 = 2
place_of (Order k) = 3 + index_of k

abbrev pub part_operands : PartT → ℕ
part_operands (Flow f) = 0
part_operands C0 = 8
part_operands C1 = 8
part_operands (Order k) = 64

abbrev pub operands_of : Command → ℕ
operands_of Width = 1
operands_of (Part p) = part_operands p
operands_of End = 0

-- An operand's bytes as a number, the lowest first.
abbrev pub number : List ℕ → ℕ
number bs = number_l 256 bs

-- The orders 4 and 5 have the size 64, the others that of the width.
abbrev pub order_size : ℕ → ℕ → ℕ
order_size n k = cond (nat_lt k 4) n 64

-- The places of C1 and the orders 4 and 5, which are for widths above 32; everything else is for all.
abbrev pub wide_place : ℕ → Bool
wide_place k = k == 2 || nat_lt 6 k

abbrev pub has_use : ℕ → Command → Bool
has_use n Width = true
has_use n (Part p) = cond (wide_place (place_of p)) (nat_lt 32 n) true
has_use n End = true
