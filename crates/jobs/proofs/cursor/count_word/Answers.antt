use Rattle.std.proofs.Common.{get_or, sym, ◌∙◌}
use Rattle.jobs.proofs.Squeezed.{past_word}
use Rattle.jobs.proofs.Wording.{goes_on, whole_more}
use Rattle.jobs.proofs.cursor.count_word.Goals as goal

pub loop-i-preserved : goal.loop-i-preserved
loop-i-preserved c =
    let on = sym c.ends_word.ensures ∙ c.if-ends_word.false in
    record {
      first = past_word c.args.bytes.now c.loop-i.i c.loop-i-test.true (goes_on (get_or c.args.bytes.now c.loop-i.i 0) on) c.loop-i.invariant.first;
      whole = whole_more c.args.bytes.now c.loop-i.i c.loop-i-test.true on c.loop-i.invariant.whole;
    }
