-- What making a K-Cipher answers.
use Rattle.std.specs.Prelude.{◌≡◌, ℕ, List, [], ◌∷◌, Some, None, Result, MatchResult}
use Rattle.flows.specs.Published.{setting, published}
use Rattle.keys.specs.Asking.{asked}
use Rattle.keys.specs.Expanding.{random_rows}
use Rattle.keys.specs.declared.refusal.KeyRefusal.{KeyRefusal}
use Rattle.kcipher.specs.Ciphers.{cipher_means}
use Rattle.kcipher.specs.Settings.{numbers}
use Rattle.kcipher.specs.declared.cipher.KCipher.{KCipher}
use Rattle.kcipher.specs.declared.cipher.KCipher.TheVariants.{Flex, Cpa}
use Rattle.meanings.specs.Meaning.{Meaning, Lawful, Equal}
use Rattle.spelling.specs.declared.parts.Flow.TheVariants.{Flex as FlexFlow, Cpa as CpaFlow}
use Rattle.spelling.specs.declared.parts.Parts.{Parts}

-- A coding that is the published cipher of a draft and a key, in top, rule and way back; the two ways undo each other on every
-- number of the width.
pub record IsCipher (p : Parts) (key : List ℕ) (m : Meaning) : Type 0 where
  pub is : Equal m (published p key)
  pub lawful : Lawful (published p key)

-- The flow of the cipher and the numbers that its steps are made of are those of the draft and the key.
abbrev pub OfDraft : Parts → List ℕ → KCipher → Type 0
OfDraft p key (Flex b) = (p.flow ≡ FlexFlow) × (numbers b.map.setting ≡ setting p key)
OfDraft p key (Cpa b) =
    (p.flow ≡ CpaFlow) × (numbers b.map.setting ≡ setting p key) × (b.map.round0 ∷ (b.map.round1 ∷ (b.map.round2 ∷ [])) ≡ random_rows p key)

-- An accepted cipher, made in a work space of so many bytes: all questions were answered yes, so that the key has just the bytes
-- that its bits fill and no spare bit is set; the coding is the published cipher; and its steps have the flow and the
-- numbers of the draft and the key.
pub record Accepted (p : Parts) (key : List ℕ) (room : ℕ) (c : KCipher) : Type 0 where
  pub yes : asked p key room ≡ None
  pub cipher : IsCipher p key (cipher_means c)
  pub of : OfDraft p key c

-- An accepted cipher, or the first question that was answered no.
abbrev pub Made : Parts → List ℕ → ℕ → Result KCipher KeyRefusal → Type 0
Made p key room r = MatchResult r (Accepted p key room) (λ e. asked p key room ≡ Some e)
