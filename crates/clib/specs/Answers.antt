-- The numbers that an answer has, by what it tells.
use Rattle.std.specs.Prelude.{◌≡◌, Ok, Err, Result, MatchResult, unwrap_or}
use Rattle.codings.specs.Refusal.{number_of as number_of_top}
use Rattle.keys.specs.Refusal.{number_of as number_of_key}
use Rattle.kcipher.specs.declared.bytes.NoCipher.TheVariants.{Draft, Key}
use Rattle.spelling.specs.Faults.{number_of as number_of_fault, place_in}
use Rattle.spelling.specs.declared.fault.Fault.{Fault}
use Rattle.spelling.specs.declared.parts.Parts.{Parts}
use Rattle.clib.specs.declared.answer.Answer.{Answer}
use Rattle.clib.specs.declared.refused.Refused.{Refused}
use Rattle.clib.specs.declared.refused.Refused.TheVariants.{Cipher, Number}

abbrev pub done : Answer
done = record { status = 0; at = 0; place = 0 }

-- A fault of a draft: its number, the offset of its command, and the place of a list that is no order.
abbrev pub fault_answer : Fault → Answer
fault_answer f = record { status = number_of_fault f.reason; at = f.offset; place = unwrap_or (place_in f.reason) 0 }

-- A refused number: which it was, counted from 0.
abbrev pub refused_answer : Refused → Answer
refused_answer (Cipher (Draft fault)) = fault_answer fault
refused_answer (Cipher (Key refusal)) = record { status = number_of_key refusal; at = 0; place = 0 }
refused_answer (Number which refusal) = record { status = number_of_top refusal; at = which; place = 0 }

abbrev pub answer_to : Result (Unit {0}) Refused → Answer
answer_to (Ok u) = done
answer_to (Err e) = refused_answer e

abbrev pub draft_answer : Result Parts Fault → Answer
draft_answer (Ok p) = done
draft_answer (Err f) = fault_answer f

-- The answer tells one of two: done, where `Good` holds, or why not, where `Bad` holds of the reason.
pub record Tells (Good : Type 0) (Bad : Refused → Type 0) (a : Answer) : Type 0 where
  pub told : Result (Unit {0}) Refused
  pub why : MatchResult told (λ u. Good) Bad
  pub answer : a ≡ answer_to told
