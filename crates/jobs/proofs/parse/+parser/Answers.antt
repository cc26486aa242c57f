use Rattle.std.proofs.Common.{◌≡◌, ◌+◌, arith}
use Rattle.jobs.proofs.Reading.{chain_read, narrowed_read, pile_read}
use Rattle.jobs.proofs.parse.+parser.Goals as goal

pub chain-returns-clause-read : goal.chain-returns-clause-read
chain-returns-clause-read t c =
    chain_read _ _ c.in_ok-then.ensures.grown _ _ _ _ _ _ _ _ _ c.in_ok-first-2.ensures c.in_ok-then-2.ensures c.in_ok-first.ensures.read c.in_ok-past_sign.ensures.read
    c.in_ok-then.ensures.read

pub narrowed-returns-clause-read : goal.narrowed-returns-clause-read
narrowed-returns-clause-read t c = narrowed_read _ _ _ _ _ _ _ _ _ c.in_ok-below-2.ensures c.in_ok-below.ensures.read c.in_ok-past_sign.ensures.read c.in_ok-to.ensures.read

pub pile-returns-clause-read : goal.pile-returns-clause-read
pile-returns-clause-read t c =
    let name = rw c.in_ok-form.ensures.found at c.form_of.ensures in
    let less = rw c.in_ok-below.ensures.found at c.checked_sub.ensures in
    let below : c.in_ok-below.below + 1 ≡ c.args.depth = omega (arith, less.0, less.1) in
    pile_read _ _ _ _ _ _ _ _ _ _ _ _ c.past_spaces-here.ensures.after c.word.ensures.after name c.in_ok-past_sign.ensures.read c.in_ok-written.ensures.read below
    c.in_ok-past_sign-2.ensures.read
