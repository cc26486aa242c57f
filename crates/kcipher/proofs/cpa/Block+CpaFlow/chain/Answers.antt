use Rattle.std.proofs.Common.{sym, subst, ◌∙◌}
use Rattle.flows.specs.Steps.{block}
use Rattle.meanings.specs.Meaning.{Equal}
use Rattle.flows.proofs.Flows.{equal}
use Rattle.kcipher.specs.Rounds.{cpa_does, cpa_undoes, cpa_flow_comes}
use Rattle.kcipher.proofs.Chains.{joined}
use Rattle.kcipher.proofs.cpa.Block+CpaFlow.chain.Goals as goal

-- step by step, from the outside in
pub returns-clause-steps : goal.returns-clause-steps
returns-clause-steps c =
    c.in_turn-10.ensures ∙ joined _ _ _ _ c.steps-s.ensures.add_c0
    (c.in_turn-9.ensures ∙ joined _ _ _ _ c.steps-s.ensures.add_k0
    (c.in_turn-8.ensures ∙ joined _ _ _ _ c.steps-s.ensures.order0
    (c.in_turn-7.ensures ∙ joined _ _ _ _ c.steps-s.ensures.boxes0
    (c.in_turn-6.ensures ∙ joined _ _ _ _ c.steps-s.ensures.add_k1
    (c.in_turn-5.ensures ∙ joined _ _ _ _ c.steps-s.ensures.order1
    (c.in_turn-4.ensures ∙ joined _ _ _ _ c.steps-s.ensures.boxes1
    (c.in_turn-3.ensures ∙ joined _ _ _ _ c.steps-s.ensures.add_k2
    (c.in_turn-2.ensures ∙ joined _ _ _ _ c.steps-s.ensures.order2
    (c.in_turn.ensures ∙ joined _ _ _ _ c.steps-s.ensures.boxes2 c.steps-s.ensures.mask_veil)))))))))

pub returns-clause-equal : goal.returns-clause-equal
returns-clause-equal c =
    let f = c.args.self.now.map in
    subst (λ m. Equal m (block f.setting.width.bits (cpa_does f) (cpa_undoes f))) (sym (returns-clause-steps c)) (equal f.setting.width.bits _ _ _ (cpa_flow_comes f))
