-- A cipher made of a draft's orders, its round keys and its random parts is the published one.
use Rattle.std.proofs.Common.{◌≡◌, ℕ, ◌^◌, ◌<◌, List, [], ◌∷◌, ap}
use Rattle.flows.specs.Published.{setting, published}
use Rattle.meanings.specs.Meaning.{Equal}
use Rattle.flows.proofs.Ciphers.{cpa_is, round_key_below}
use Rattle.keys.specs.Expanding.{Keyed, random_row, random_rows}
use Rattle.keys.specs.declared.expand.RoundKeys.{RoundKeys}
use Rattle.kcipher.specs.Ciphers.{cpa_means}
use Rattle.kcipher.specs.Settings.{numbers}
use Rattle.kcipher.specs.declared.cpa.CpaFlow.{CpaFlow}
use Rattle.spelling.specs.declared.parts.Flow.TheVariants.{Cpa as CpaVariant}
use Rattle.spelling.specs.declared.parts.Parts.{Parts}
use Rattle.spelling.specs.Sound.{SoundParts}

pub keyed_small : (p : Parts) (key : List ℕ) (k : RoundKeys) → Keyed p key k → k.k2 < 2 ^ p.width
keyed_small p key k e = rw e.2 (round_key_below p key 2)

pub cpa_made : (p : Parts) (key : List ℕ) → SoundParts p → (f : CpaFlow) → numbers f.setting ≡ setting p key → p.flow ≡ CpaVariant
    → f.round0 ∷ (f.round1 ∷ (f.round2 ∷ [])) ≡ random_rows p key → Equal (cpa_means f) (published p key)
cpa_made p key sound f e flow rounds =
    let first : f.round0 ≡ random_row p key 0 = cc in
    let second : f.round1 ≡ random_row p key 1 = cc in
    let third : f.round2 ≡ random_row p key 2 = cc in
    cpa_is p key sound (numbers f.setting) _ _ _ _ _ _ e flow (ap (λ c. c.r0) first) (ap (λ c. c.r1) first) (ap (λ c. c.r0) second) (ap (λ c. c.r1) second)
    (ap (λ c. c.r0) third) (ap (λ c. c.r1) third)
