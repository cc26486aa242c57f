use Rattle.std.proofs.Common.{sym, subst}
use Rattle.jobs.specs.Places.{NextWord}
use Rattle.jobs.proofs.Wording.{next_word}
use Rattle.jobs.proofs.cursor.Cursor.name.Goals as goal

pub returns-clause-read : goal.returns-clause-read
returns-clause-read c =
    let gap = c.past_spaces-here.ensures in
    let word = c.word.ensures in
    let named = rw c.in_ok-name.ensures.found at c.name_in.ensures in
    subst (λ z. NextWord c.args.self c.word.result.1 z) (sym named.0)
    (next_word _ _ _ _ gap.after gap.at gap.apart word.after word.at word.is word.whole word.over named.1)
