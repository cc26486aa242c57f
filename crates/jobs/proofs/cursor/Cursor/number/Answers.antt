use Rattle.jobs.proofs.Wording.{next_word}
use Rattle.jobs.proofs.cursor.Cursor.number.Goals as goal

pub returns-clause-read : goal.returns-clause-read
returns-clause-read c =
    let gap = c.past_spaces-here.ensures in
    let word = c.word.ensures in
    let numeral = rw c.in_ok-number.ensures.found at c.number_in.ensures in
    record {
      digits = c.word.result.0.now;
      word = next_word _ _ _ _ gap.after gap.at gap.apart word.after word.at word.is word.whole word.over numeral.0.0;
      number = numeral;
    }
