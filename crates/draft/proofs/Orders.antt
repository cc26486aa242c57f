-- Lists of orders: what is read of them, and where they are put.
use Rattle.std.proofs.Common.{◌≡◌, ℕ, Bool, true, false, List, map, set, length, Some, None, Ok, Err, Option, Result, unwrap_or, refl, sym, ap, subst}
use Rattle.std.proofs.lemmas.List.{map-set}
use Rattle.bits.specs.Orders.{Sound, FirstFault}
use Rattle.spelling.specs.declared.command.OrderName.{OrderName}
use Rattle.spelling.specs.declared.command.Part.{Part as PartT}
use Rattle.spelling.specs.declared.command.Part.TheVariants.{Order}
use Rattle.spelling.specs.declared.fault.Fault.{Fault}
use Rattle.spelling.specs.declared.fault.Reason.{Reason}
use Rattle.spelling.specs.declared.fault.Reason.TheVariants.{NoByte, NoOrder}
use Rattle.spelling.specs.declared.parts.Flow.{Flow}
use Rattle.spelling.specs.declared.parts.Flow.TheVariants.{Flex}
use Rattle.spelling.specs.declared.parts.Parts.{Parts}
use Rattle.spelling.specs.Commands.{index_of, part_operands}
use Rattle.spelling.specs.Steps.{found}
use Rattle.spelling.specs.Turns.{ask, operand, put_part, first_fault}
use Rattle.spelling.proofs.Operands.{none_at_fault, first_found}
use Rattle.draft.specs.declared.found.Found.{Found}
use Rattle.draft.specs.declared.cursor.Cursor.{Cursor}
use Rattle.draft.specs.Founds.{list_of, reading_at}
use Rattle.draft.specs.Cursors.{with_operand, right_operand}

abbrev why_of : Option ℕ → Option Reason
why_of o = elim o [ None ↦ None | Some p ↦ Some (NoOrder p) ]

abbrev list_or : ℕ → List ℕ → Option ℕ → Result (List ℕ) Fault
list_or at list o = elim (why_of o) [ Some why ↦ Err (record { reason = why; offset = at }) | None ↦ Ok list ]

pub sound_read : (n m at : ℕ) (there : Bool) (os list : List ℕ) → Ok list ≡ ask there NoByte at (Ok os) → m ≡ n → Sound m list
    → Ok list ≡ ask there NoByte at (list_or at os (first_fault n os (length os) 0))
sound_read n m at true os list e same sound =
    let is : os ≡ list = cc in rw (is, ← same) (ap (list_or at list) (none_at_fault m list sound))
sound_read n m at false os list e same sound = cc

pub fault_read : (n m at p : ℕ) (there : Bool) (os list : List ℕ) → Ok list ≡ ask there NoByte at (Ok os) → m ≡ n → FirstFault m list p
    → Err (record { reason = NoOrder p; offset = at }) ≡ ask there NoByte at (list_or at os (first_fault n os (length os) 0))
fault_read n m at p true os list e same fault =
    let is : os ≡ list = cc in rw (is, ← same) (ap (list_or at list) (first_found m list p fault))
fault_read n m at p false os list e same fault = cc

abbrev all_of : ℕ → Flow → ℕ → ℕ → List (Option (List ℕ)) → Parts
all_of w f c d orders = record { width = w; flow = f; c0 = c; c1 = d; orders = map list_of orders }

abbrev parts_or : ℕ → Parts → Option Reason → Result Parts Fault
parts_or at p o = elim o [ Some why ↦ Err (record { reason = why; offset = at }) | None ↦ Ok p ]

put : (w : ℕ) (f : Flow) (c d : ℕ) (orders : List (Option (List ℕ))) (k : OrderName) (i at : ℕ) (there : Bool) (os list : List ℕ) (o : Option ℕ)
    → i ≡ index_of k → Ok list ≡ ask there NoByte at (list_or at os o)
    → Ok (all_of w f c d (set orders i (Some list))) ≡ ask there NoByte at (parts_or at (put_part (Order k) os (all_of w f c d orders)) (why_of o))
put w f c d orders k i at false os list o is e = cc
put w f c d orders k i at true os list (Some p) is e = cc
put w f c d orders k i at true os list None is e =
    let same : list ≡ os = cc in rw (← is, ← same, map-set list_of orders i (Some list)) refl

-- the parts after a list was put to its order
pub parts_put : (f : Found) (cursor : Cursor) (part : PartT) (k : OrderName) (i : ℕ) (list : List ℕ) → part ≡ Order k → i ≡ index_of k
    → Ok list ≡ right_operand cursor f.width.bits (Order k)
    → Ok (all_of f.width.bits (unwrap_or f.flow Flex) (unwrap_or f.c0 0) (unwrap_or f.c1 0) (set f.orders i (Some list)))
    ≡ with_operand cursor (part_operands part) (λ _. found cursor.bytes.now (reading_at cursor.at f) part)
parts_put f cursor part k i list is at e =
    subst (λ p. Ok (all_of f.width.bits (unwrap_or f.flow Flex) (unwrap_or f.c0 0) (unwrap_or f.c1 0) (set f.orders i (Some list)))
    ≡ with_operand cursor (part_operands p) (λ _. found cursor.bytes.now (reading_at cursor.at f) p))
    (sym is) (put _ _ _ _ f.orders k i cursor.at _ (operand cursor.bytes.now cursor.at 64) list _ at e)

pub ruleset put_steps = (parts_put, map-set)
