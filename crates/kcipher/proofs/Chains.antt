-- Chains of equal parts.
use Rattle.std.proofs.Common.{◌≡◌, ap, ◌∙◌}
use Rattle.meanings.specs.Layers.{chained}
use Rattle.meanings.specs.Meaning.{Meaning}

pub joined : (a b c d : Meaning) → a ≡ c → b ≡ d → chained a b ≡ chained c d
joined a b c d e f = ap (λ z. chained z b) e ∙ ap (chained c) f
