use Rattle.std.proofs.Common.{ap, sym, ◌∙◌}
use Rattle.kcipher.specs.Settings.{numbers}
use Rattle.kcipher.proofs.Made.{cpa_made}
use Rattle.kcipher.proofs.make.cipher_of.Goals as goal

pub returns-in-Cpa : goal.returns-in-Cpa
returns-in-Cpa c =
    let p = c.args.draft.now.parts in
    let key = c.args.key.now in
    let flow = c.new-in-Cpa.result in
    let same = ap numbers c.new-in-Cpa.ensures.0 ∙ c.setting_of-setting.ensures in
    let is_cpa = ap (λ z. z.flow) (sym c.parts.ensures) ∙ c.in-Cpa.is in
    let rounds = c.new-in-Cpa.ensures.1 ∙ c.random_parts.ensures.rows in
    rw c.new-in-Cpa-2.ensures (record { is = cpa_made p key c.args.draft.now.sound flow same is_cpa rounds; of = (is_cpa, same, rounds) })
