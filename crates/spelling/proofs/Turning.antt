-- What a turn that goes on, or ends, has found: every question was answered yes.
use Rattle.std.proofs.Common.{◌≡◌, ℕ, ◌+◌, ◌<◌, Bool, true, false, ltb, List, length, get_or, Some, None, Ok, Err, Option, Result, refl}
use Rattle.std.proofs.lemmas.Bool.{ltb-true}
use Rattle.spelling.specs.declared.command.Command.{Command}
use Rattle.spelling.specs.declared.fault.Fault.{Fault}
use Rattle.spelling.specs.declared.fault.Reason.{Reason}
use Rattle.spelling.specs.declared.fault.Reason.TheVariants.{NoCommand}
use Rattle.spelling.specs.Reading.{Reading, Turn}
use Rattle.spelling.specs.Commands.{command_of, operands_of, has_use}
use Rattle.spelling.specs.Turns.{ask, in_sequence, after, given_command, command_at, turn}

pub ask_ok : {X : Type 0} (t : Bool) (why : Reason) (at : ℕ) (rest : Result X Fault) (x : X) → ask t why at rest ≡ Ok x → (t ≡ true) × (rest ≡ Ok x)
ask_ok true why at rest x e = (refl, e)
ask_ok false why at rest x e = cc

-- a known command and the questions before its operand
pub record Asked (bytes : List ℕ) (s : Reading) (c : Command) (t : Turn) : Type 0 where
  pub byte : s.at < length bytes
  pub letter : command_of (get_or bytes s.at 0) ≡ Some c
  pub sequence : in_sequence s c ≡ true
  pub use_of : has_use s.parts.width c ≡ true
  pub there : s.at + operands_of c < length bytes
  pub leads : after bytes s c ≡ Ok t

abbrev pub at_letter : Reading → Option Command → Result Command Fault
at_letter s o = elim o [ None ↦ Err (record { reason = NoCommand; offset = s.at }) | Some c ↦ Ok c ]

pub asked : (bytes : List ℕ) (s : Reading) (t : Turn) → turn bytes s ≡ Ok t → (c : Command) × Asked bytes s c t
asked bytes s t e = go (command_of (get_or bytes s.at 0)) refl first.1
  where
    first : (ltb s.at (length bytes) ≡ true) × (◌≡◌ {A = Result Turn Fault} (elim (command_at bytes s.at) [ Err f ↦ Err f | Ok c ↦ given_command bytes s c ]) (Ok t))
    first = ask_ok (ltb s.at (length bytes)) _ s.at _ t e

    go : (o : Option Command) → command_of (get_or bytes s.at 0) ≡ o
        → ◌≡◌ {A = Result Turn Fault} (elim (at_letter s o) [ Err f ↦ Err f | Ok c ↦ given_command bytes s c ]) (Ok t)
        → (c : Command) × Asked bytes s c t
    go None is f = cc
    go (Some c) is f =
        let a = ask_ok (in_sequence s c) _ s.at _ t f in
        let b = ask_ok (has_use s.parts.width c) _ s.at _ t a.1 in
        let d = ask_ok (ltb (s.at + operands_of c) (length bytes)) _ s.at _ t b.1 in (
          c,
          record {
            byte = ltb-true s.at (length bytes) first.0;
            letter = is;
            sequence = a.0;
            use_of = b.0;
            there = ltb-true (s.at + operands_of c) (length bytes) d.0;
            leads = d.1;
          },
        )
