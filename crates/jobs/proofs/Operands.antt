-- Operands that are wrong, one behind the other.
use Rattle.std.proofs.Common.{◌≡◌, ℕ, List, ◌∷◌, ap, subst, ◌∙◌, inl, inr}
use Rattle.jobs.proofs.Faults.{begins_at}
use Rattle.jobs.specs.Faults.{Blames, InText}
use Rattle.jobs.specs.Places.{NextWord, NumberRead, WordBetween, line_start, left_of}
use Rattle.jobs.specs.Steps.{Operand, OperandWrong, OperandsBlamed, StepWrong, WordRead, a_name, a_number, operands_of, word_text}
use Rattle.jobs.specs.declared.cursor.Cursor.{Cursor}
use Rattle.jobs.specs.declared.cursor.Source.{Source}
use Rattle.jobs.specs.declared.job.LineWord.TheVariants.{Step as StepLine}
use Rattle.jobs.specs.declared.job.StepWord.{StepWord}
use Rattle.jobs.specs.declared.job.WordLine.{WordLine}
use Rattle.jobs.specs.declared.place.BadText.{BadText}
use Rattle.jobs.specs.declared.place.Wrong.TheVariants.{NoName, NoNumber}

pub no_name : (os : List Operand) (c : Cursor) (e : BadText) → Blames c NoName e → OperandsBlamed (a_name ∷ os) c e
no_name os c e b = (inl b.0, b.1)

pub no_number : (os : List Operand) (c : Cursor) (e : BadText) → Blames c NoNumber e → OperandsBlamed (a_number ∷ os) c e
no_number os c e b = (inl b.0, b.1)

onward : (os : List Operand) (c d : Cursor) (e : BadText) → d.source ≡ c.source → OperandsBlamed os d e
    → OperandWrong os c.source.bytes.now c.source.start d.at e × InText c.source e
onward os c d e same b = subst (λ (z : Source). OperandWrong os z.bytes.now z.start d.at e × InText z e) same b

pub past_name : (os : List Operand) (c d : Cursor) (w : List ℕ) (e : BadText) → NextWord c d w → OperandsBlamed os d e → OperandsBlamed (a_name ∷ os) c e
past_name os c d w e h b = let o = onward os c d e h.after.same b in (inr (w, d.at, h.between, h.some, o.0), o.1)

pub past_number : (os : List Operand) (c d : Cursor) (n : ℕ) (e : BadText) → NumberRead c d n → OperandsBlamed os d e → OperandsBlamed (a_number ∷ os) c e
past_number os c d n e h b = let o = onward os c d e h.word.after.same b in (inr (h.digits, d.at, n, h.word.between, h.number, o.0), o.1)

-- What is wrong behind a step's word.
pub step_wrong : (line : List ℕ) (n : ℕ) (w : WordLine) (s : StepWord) (e : BadText) → WordRead line n w → w.word ≡ StepLine s → OperandsBlamed (operands_of s) w.after e
    → StepWrong line n e
step_wrong line n w s e read is b =
    let on = read.place in
    let bytes : w.after.source.bytes.now ≡ line = ap (λ (z : Source). z.bytes.now) on.same ∙ on.bytes in
    let start : w.after.source.start ≡ line_start n = ap (λ (z : Source). z.start) on.same ∙ begins_at w.here.source.start n on.on on.from in
    let there : OperandWrong (operands_of s) line (line_start n) w.after.at e =
    subst (λ z. OperandWrong (operands_of s) z (line_start n) w.after.at e) bytes (subst (λ z. OperandWrong (operands_of s) w.after.source.bytes.now z w.after.at e) start b.0) in
    inr (inr (
      read.speaks,
      (
        s,
        record {
          begins = record { behind = left_of w.after; is = rw is at read.text; over = read.over };
          from = w.after.at;
          word = subst (λ z. WordBetween line 0 z w.after.at) (ap word_text is) read.between;
          wrong = there;
        },
      ),
    ))
