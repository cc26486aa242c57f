use Rattle.std.proofs.Common.{refl, sym, ◌∙◌}
use Rattle.jobs.specs.Places.{left_of, words_left}
use Rattle.jobs.proofs.Heading.{good_yarn, good_hands, good_roles, good_records, pile_apart, said_words}
use Rattle.jobs.proofs.job.Found.put.Goals as goal

pub returns-in_ok-whole-in-Yarn : goal.returns-in_ok-whole-in-Yarn
returns-in_ok-whole-in-Yarn c =
    let done = c.in_ok-whole-in-Yarn.ensures in
    let apart = pile_apart _ (left_of c.args.after) _ c.requires.over done.read.spelt in
    let absent = rw c.in-Yarn.is at (sym c.has.ensures ∙ c.if-has.false) in
    let words = rw c.in-Yarn.is at (c.requires.words apart) in
    let text = rw c.in-Yarn.is at c.requires.text in
    λ ls good.
    good_yarn ls _ _ _ (words_left c.args.after) _ good absent words
    (record { behind = left_of c.args.after; is = text; over = c.requires.over }) done.grown (said_words _ _ (left_of c.args.after) _ done.read) refl refl refl refl

pub returns-in_ok-whole-in-Hands : goal.returns-in_ok-whole-in-Hands
returns-in_ok-whole-in-Hands c =
    let done = c.in_ok-whole-in-Hands.ensures in
    let apart = pile_apart _ (left_of c.args.after) _ c.requires.over done.read.spelt in
    let absent = rw c.in-Hands.is at (sym c.has.ensures ∙ c.if-has.false) in
    let words = rw c.in-Hands.is at (c.requires.words apart) in
    let text = rw c.in-Hands.is at c.requires.text in
    λ ls good.
    good_hands ls _ _ _ (words_left c.args.after) _ good absent words
    (record { behind = left_of c.args.after; is = text; over = c.requires.over }) done.grown (said_words _ _ (left_of c.args.after) _ done.read) refl refl refl refl

pub returns-in_ok-letters-in-Roles : goal.returns-in_ok-letters-in-Roles
returns-in_ok-letters-in-Roles c =
    let (apart, said) = c.in_ok-letters-in-Roles.ensures in
    let absent = rw c.in-Roles.is at (sym c.has.ensures ∙ c.if-has.false) in
    let words = rw c.in-Roles.is at (c.requires.words apart) in
    let text = rw c.in-Roles.is at c.requires.text in
    λ ls good.
    good_roles ls _ _ _ (words_left c.args.after) _ good absent words
    (record { behind = left_of c.args.after; is = text; over = c.requires.over }) said refl refl refl refl refl

pub returns-in_ok-row_of-in-Records : goal.returns-in_ok-row_of-in-Records
returns-in_ok-row_of-in-Records c =
    let (apart, said) = c.in_ok-row_of-in-Records.ensures.read in
    let absent = rw c.in-Records.is at (sym c.has.ensures ∙ c.if-has.false) in
    let words = rw c.in-Records.is at (c.requires.words apart) in
    let text = rw c.in-Records.is at c.requires.text in
    λ ls good.
    good_records ls _ _ _ (words_left c.args.after) _ good absent words
    (record { behind = left_of c.args.after; is = text; over = c.requires.over }) said refl refl refl refl refl
