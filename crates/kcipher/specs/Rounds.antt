-- What a CPA flow of the code does, by its numbers.
use Rattle.std.proofs.Common.{ℕ}
use Rattle.boxes.specs.Boxes.{Undone, cpa_box, cpa_box_back}
use Rattle.boxes.specs.Kinds.{cpa_boxed}
use Rattle.boxes.specs.declared.kind.Cpa.{Cpa}
use Rattle.flows.specs.Flows.{Kind, cpa_encrypt, cpa_decrypt}
use Rattle.flows.specs.Steps.{cpa_steps}
use Rattle.flows.proofs.Flows.{Comes, cpa_comes}
use Rattle.kcipher.specs.Settings.{numbers, fits}
use Rattle.kcipher.specs.declared.cpa.CpaFlow.{CpaFlow}
use Rattle.meanings.specs.Meaning.{Meaning}

-- The boxes of a round and their ways back.
abbrev pub box : Cpa → Kind
box c = cpa_box c.r0 c.r1

abbrev pub box_back : Cpa → Kind
box_back c = cpa_box_back c.r0 c.r1

abbrev pub cpa_does : CpaFlow → ℕ → ℕ
cpa_does f = cpa_encrypt (numbers f.setting) (box f.round0) (box f.round1) (box f.round2)

abbrev pub cpa_undoes : CpaFlow → ℕ → ℕ
cpa_undoes f = cpa_decrypt (numbers f.setting) (box_back f.round0) (box_back f.round1) (box_back f.round2)

abbrev pub cpa_chain : CpaFlow → Meaning
cpa_chain f = cpa_steps (numbers f.setting) (box f.round0) (box f.round1) (box f.round2) (box_back f.round0) (box_back f.round1) (box_back f.round2)

pub cpa_flow_comes : (f : CpaFlow) → Comes f.setting.width.bits (cpa_chain f) (cpa_does f) (cpa_undoes f)
cpa_flow_comes f =
    cpa_comes (numbers f.setting) (fits f.setting) _ _ _ _ _ _ (cpa_boxed f.round0.r0 f.round0.r1) (cpa_boxed f.round1.r0 f.round1.r1) (cpa_boxed f.round2.r0 f.round2.r1)

pub cpa_undone : (f : CpaFlow) → Undone f.setting.width.bits (cpa_does f) (cpa_undoes f)
cpa_undone f = (cpa_flow_comes f).undone
