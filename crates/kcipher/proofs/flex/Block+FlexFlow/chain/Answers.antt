use Rattle.std.proofs.Common.{sym, subst, ◌∙◌}
use Rattle.flows.specs.Flows.{flex_encrypt, flex_decrypt}
use Rattle.flows.specs.Steps.{block}
use Rattle.meanings.specs.Meaning.{Equal}
use Rattle.flows.proofs.Flows.{flex_comes, equal}
use Rattle.kcipher.specs.Settings.{numbers, fits}
use Rattle.kcipher.proofs.Chains.{joined}
use Rattle.kcipher.proofs.flex.Block+FlexFlow.chain.Goals as goal

-- step by step, from the outside in
pub returns-clause-steps : goal.returns-clause-steps
returns-clause-steps c =
    c.in_turn-9.ensures ∙ joined _ _ _ _ c.steps-s.ensures.add_c0
    (c.in_turn-8.ensures ∙ joined _ _ _ _ c.steps-s.ensures.add_k0
    (c.in_turn-7.ensures ∙ joined _ _ _ _ c.steps-s.ensures.order0
    (c.in_turn-6.ensures ∙ joined _ _ _ _ c.steps-s.ensures.boxes0
    (c.in_turn-5.ensures ∙ joined _ _ _ _ c.steps-s.ensures.order1
    (c.in_turn-4.ensures ∙ joined _ _ _ _ c.steps-s.ensures.add_k1
    (c.in_turn-3.ensures ∙ joined _ _ _ _ c.steps-s.ensures.order2
    (c.in_turn-2.ensures ∙ joined _ _ _ _ c.steps-s.ensures.boxes1
    (c.in_turn.ensures ∙ joined _ _ _ _ c.steps-s.ensures.order3 c.steps-s.ensures.mask_k2))))))))

pub returns-clause-equal : goal.returns-clause-equal
returns-clause-equal c =
    let s = c.args.self.now.map.setting in
    let n = numbers s in
    subst (λ m. Equal m (block n.width (flex_encrypt n) (flex_decrypt n))) (sym (returns-clause-steps c)) (equal n.width _ _ _ (flex_comes n (fits s)))
