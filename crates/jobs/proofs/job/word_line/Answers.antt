use Rattle.std.proofs.Common.{◌≡◌, ◌∷◌, ◌++◌, ◌<◌, length, get_or, ap, sym, ◌∙◌, inl, subst}
use Rattle.jobs.specs.Places.{left_of, words_left}
use Rattle.jobs.specs.Signs.{squeezed, words}
use Rattle.jobs.specs.declared.cursor.Source.{Source}
use Rattle.jobs.specs.declared.place.Place.{Place}
use Rattle.jobs.proofs.Squeezed.{at_the_end}
use Rattle.jobs.proofs.Wording.{first_word, word_text_some, left_some, no_bytes, speaks, unknown}
use Rattle.jobs.proofs.Faults.{all_left, first_at, word_between}
use Rattle.jobs.specs.Places.{blamed, WordBetween}
use Rattle.jobs.specs.declared.place.Wrong.TheVariants.{UnknownWord}
use Rattle.jobs.proofs.job.word_line.Goals as goal
use Rattle.jobs.proofs.job.word_line.Goals.{else-not-is_empty-via-then-not-is_empty+else-word-eq35, else-not-is_empty-via-else-not-is_empty}

pub returns-then-is_end : goal.returns-then-is_end
returns-then-is_end c =
    let start = c.new-2.result in
    let here = c.past_spaces-here.result in
    let text = ap squeezed (all_left start c.new.result c.args.line.now c.new-2.ensures.at c.new-2.ensures.source c.new.ensures.bytes) in
    inl (sym text ∙ c.past_spaces-here.ensures.after.text ∙ at_the_end here.source.bytes.now here.at (sym c.is_end.ensures ∙ c.if-is_end.true))

pub returns-in-Some : goal.returns-in-Some
returns-in-Some c =
    let start = c.new-2.result in
    let word = c.word.ensures in
    let line = all_left start c.new.result c.args.line.now c.new-2.ensures.at c.new-2.ensures.source c.new.ensures.bytes in
    let gap = c.past_spaces-here.ensures in
    let source = gap.after.same ∙ c.new-2.ensures.source in
    let named = c.in-Some.ensures in
    let here = c.past_spaces-here.result in
    let more = left_some here.source.bytes.now here.at here.within (sym c.is_end.ensures ∙ c.if-is_end.false) in
    let other : get_or c.word.result.0.now 0 0 ≡ 35 → ⊥ =
    elim c.else-not-is_empty.branch [
      | else-not-is_empty-via-then-not-is_empty+else-word-eq35 w ↦ w.if-word-eq35.false
      | else-not-is_empty-via-else-not-is_empty w ↦ no_bytes c.word.result.0.now (sym c.is_empty.ensures ∙ w.if-not-is_empty.false)
    ] in
    let some : 0 < length c.word.result.0.now = subst (λ z. 0 < length z) (sym named) (word_text_some c.in-Some.word) in
    record {
      place = record {
        bytes = ap (λ (z : Source). z.bytes.now) source ∙ c.new.ensures.bytes;
        on = ap (λ (z : Source). z.start.line) source ∙ ap (λ (p : Place). p.line) c.new.ensures.start;
        from = ap (λ (z : Source). z.start.column) source ∙ ap (λ (p : Place). p.column) c.new.ensures.start;
        first = first_at start here c.args.line.now c.args.number gap.after.same gap.at c.new-2.ensures.at line (ap (λ (z : Source). z.start) c.new-2.ensures.source ∙ c.new.ensures.start);
        same = word.after.same;
      };
      between = subst (λ z. WordBetween c.args.line.now 0 z c.word.result.1.at) named
          (subst (λ z. WordBetween z 0 c.word.result.0.now c.word.result.1.at) (ap (λ (z : Source). z.bytes.now) c.new-2.ensures.source ∙ c.new.ensures.bytes)
          (subst (λ k. WordBetween start.source.bytes.now k c.word.result.0.now c.word.result.1.at) c.new-2.ensures.at
          (word_between start here c.word.result.1 c.word.result.0.now gap.after.same gap.at word.is word.at word.whole word.over)));
      text = sym (ap words line) ∙ sym gap.apart ∙ ap words word.is ∙ ap (λ z. words (z ++ left_of c.word.result.1)) named;
      over = word.over;
      words = λ apart. first_word c.args.line.now start c.past_spaces-here.result c.word.result.1 c.word.result.0.now (ap words line) gap.apart word.is word.whole some apart
          ∙ ap (λ z. z ∷ words_left c.word.result.1) named;
      speaks = speaks c.args.line.now (left_of here) c.word.result.0.now _ (sym (ap squeezed line) ∙ gap.after.text) word.is word.over gap.flush more other;
    }

pub returns-in-None : goal.returns-in-None
returns-in-None c =
    let start = c.new-2.result in
    let word = c.word.ensures in
    let line = all_left start c.new.result c.args.line.now c.new-2.ensures.at c.new-2.ensures.source c.new.ensures.bytes in
    let gap = c.past_spaces-here.ensures in
    let here = c.past_spaces-here.result in
    let more = left_some here.source.bytes.now here.at here.within (sym c.is_end.ensures ∙ c.if-is_end.false) in
    let other : get_or c.word.result.0.now 0 0 ≡ 35 → ⊥ =
    elim c.else-not-is_empty.branch [
      | else-not-is_empty-via-then-not-is_empty+else-word-eq35 w ↦ w.if-word-eq35.false
      | else-not-is_empty-via-else-not-is_empty w ↦ no_bytes c.word.result.0.now (sym c.is_empty.ensures ∙ w.if-not-is_empty.false)
    ] in
    let first = first_at start here c.args.line.now c.args.number gap.after.same gap.at c.new-2.ensures.at line (ap (λ (z : Source). z.start) c.new-2.ensures.source ∙ c.new.ensures.start) in
    record {
      is = c.bad.ensures ∙ ap (λ p. blamed p UnknownWord) first;
      speaks = speaks c.args.line.now (left_of here) c.word.result.0.now _ (sym (ap squeezed line) ∙ gap.after.text) word.is word.over gap.flush more other;
      unknown = unknown c.args.line.now (left_of here) c.word.result.0.now _ (sym (ap words line) ∙ sym gap.apart) word.is word.whole word.over gap.flush more c.in-None.ensures;
    }
