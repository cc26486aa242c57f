-- A turn that goes on comes to a later place, within the bytes, and the width stays good.
use Rattle.std.proofs.Common.{◌≡◌, ℕ, ◌+◌, ◌<◌, ◌≤◌, true, ◌&&◌, eqb, leb, List, length, get_or, Some, None, Ok, Err, Option, Result, refl, arith}
use Rattle.std.proofs.lemmas.Bool.{and_parts, ltb-true, leb-true, eqb-true}
use Rattle.spelling.specs.declared.parts.Parts.{Parts}
use Rattle.spelling.specs.declared.command.Part.{Part as PartT}
use Rattle.spelling.specs.declared.command.Part.TheVariants.{Flow, C0, C1, Order}
use Rattle.spelling.specs.declared.command.Command.{Command}
use Rattle.spelling.specs.declared.command.Command.TheVariants.{Width, Part, End}
use Rattle.spelling.specs.declared.fault.Fault.{Fault}
use Rattle.spelling.specs.declared.fault.Reason.{Reason}
use Rattle.spelling.specs.declared.fault.Reason.TheVariants.{BadWidth, Missing, GoesOn}
use Rattle.spelling.specs.Reading.{Reading, Turn, More, Done}
use Rattle.spelling.specs.Commands.{part_operands}
use Rattle.spelling.specs.Turns.{operand, part_fault, put_part, with_width, complete, ask, after, turn}
use Rattle.spelling.specs.Steps.{noted}
use Rattle.spelling.proofs.Turning.{ask_ok, Asked, asked}

-- After the first command the width is one of 24 to 64.
abbrev pub Good : Reading → Type 0
Good s = 0 < s.at → (24 ≤ s.parts.width) × (s.parts.width ≤ 64)

-- what a turn that goes on after W has found
pub record Widened (bytes : List ℕ) (s next : Reading) : Type 0 where
  pub least : 24 ≤ get_or bytes (s.at + 1) 0
  pub most : get_or bytes (s.at + 1) 0 ≤ 64
  pub is : next ≡ record { at = s.at + 2; given = s.given; parts = with_width (get_or bytes (s.at + 1) 0) s.parts }

pub widened : (bytes : List ℕ) (s next : Reading) → after bytes s Width ≡ Ok (More next) → Widened bytes s next
widened bytes s next e =
    let a = ask_ok (leb 24 (get_or bytes (s.at + 1) 0) && leb (get_or bytes (s.at + 1) 0) 64) BadWidth s.at _ (More next) e in
    let b = and_parts _ _ a.0 in
    let f = a.1 in
    record { least = leb-true _ _ b.0; most = leb-true _ _ b.1; is = cc }

-- and after a part
pub record Grown (bytes : List ℕ) (s : Reading) (p : PartT) (next : Reading) : Type 0 where
  pub well : part_fault s.parts.width p (operand bytes s.at (part_operands p)) ≡ None
  pub is : next ≡ noted s p (put_part p (operand bytes s.at (part_operands p)) s.parts)

abbrev at_fault : List ℕ → Reading → PartT → Option Reason → Result Turn Fault
at_fault bytes s p o = elim o [
  | Some why ↦ Err (record { reason = why; offset = s.at })
  | None ↦ Ok (More (noted s p (put_part p (operand bytes s.at (part_operands p)) s.parts)))
]

pub grown : (bytes : List ℕ) (s : Reading) (p : PartT) (next : Reading) → after bytes s (Part p) ≡ Ok (More next) → Grown bytes s p next
grown bytes s p next e = go (part_fault s.parts.width p (operand bytes s.at (part_operands p))) refl e
  where
    go : (o : Option Reason) → part_fault s.parts.width p (operand bytes s.at (part_operands p)) ≡ o → at_fault bytes s p o ≡ Ok (More next) → Grown bytes s p next
    go None is f = record { well = is; is = cc }
    go (Some why) is f = cc

-- and at Z
pub record Ended (bytes : List ℕ) (s : Reading) (t : Turn) : Type 0 where
  pub whole : complete s.parts.width s.given ≡ true
  pub last : s.at + 1 ≡ length bytes
  pub is : t ≡ Done s.parts

pub ended : (bytes : List ℕ) (s : Reading) (t : Turn) → after bytes s End ≡ Ok t → Ended bytes s t
ended bytes s t e =
    let a = ask_ok (complete s.parts.width s.given) Missing s.at (ask (eqb (s.at + 1) (length bytes)) GoesOn (s.at + 1) (Ok (Done s.parts))) t e in
    let b = ask_ok (eqb (s.at + 1) (length bytes)) GoesOn (s.at + 1) (Ok (Done s.parts)) t a.1 in
    let f : ◌≡◌ {A = Result Turn Fault} (Ok (Done s.parts)) (Ok t) = b.1 in
    record { whole = a.0; last = eqb-true (s.at + 1) (length bytes) b.0; is = cc }

pub not_end : (bytes : List ℕ) (s next : Reading) → after bytes s End ≡ Ok (More next) → ⊥
not_end bytes s next e =
    let i = (ended bytes s (More next) e).is in
    cc

pub same_width : (p : PartT) (os : List ℕ) (a : Parts) → (put_part p os a).width ≡ a.width
same_width (Flow f) os a = refl
same_width C0 os a = refl
same_width C1 os a = refl
same_width (Order k) os a = refl

pub advances : (bytes : List ℕ) (s next : Reading) → Good s → turn bytes s ≡ Ok (More next) → (s.at < next.at) × (next.at ≤ length bytes) × Good next
advances bytes s next good e = go (asked bytes s (More next) e)
  where
    in_part : (p : PartT) → Asked bytes s (Part p) (More next) → 0 < s.at
    in_part p a = ltb-true 0 s.at (and_parts _ _ a.sequence).0

    go : (c : Command) × Asked bytes s c (More next) → (s.at < next.at) × (next.at ≤ length bytes) × Good next
    go (Width, a) =
        let w = widened bytes s next a.leads in
        let t = a.there in
        let l = w.least in
        let m = w.most in
        rw w.is (omega arith, omega arith, λ h. (l, m))
    go (Part p, a) =
        let g = grown bytes s p next a.leads in
        let t = a.there in
        let w = same_width p (operand bytes s.at (part_operands p)) s.parts in
        let i = in_part p a in
        rw (g.is, w) (omega arith, omega arith, λ h. good i)
    go (End, a) = absurd (not_end bytes s next a.leads)
