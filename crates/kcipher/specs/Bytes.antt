-- What the bytes of a draft and a key come to.
use Rattle.std.specs.Prelude.{◌≡◌, ℕ, List, ◌++◌, Option, Some, codes}
use Rattle.std.specs.Fmt.{decimal, ◌++?◌}
use Rattle.keys.specs.Asking.{asked}
use Rattle.keys.specs.Refusal.{number_of, words_of}
use Rattle.kcipher.specs.Ciphers.{cipher_means}
use Rattle.kcipher.specs.Making.{Accepted}
use Rattle.kcipher.specs.declared.bytes.NoCipher.{NoCipher}
use Rattle.kcipher.specs.declared.bytes.NoCipher.TheVariants.{Draft, Key}
use Rattle.kcipher.specs.declared.cipher.KCipher.{KCipher}
use Rattle.meanings.specs.Meaning.{Meaning}
use Rattle.spelling.specs.Told.{TheDraft, TheFault}
use Rattle.spelling.specs.declared.fault.Fault.{Fault}
use Rattle.spelling.specs.declared.parts.Parts.{Parts}

-- The bytes spell a draft, and this is an accepted cipher of it and of the key. The work space is the call's own, and long enough.
pub record CipherOf (draft key : List ℕ) (c : KCipher) : Type 0 where
  pub parts : Parts
  pub spelt : TheDraft draft parts
  pub accepted : Accepted parts key 24 c

-- The bytes make an accepted cipher, and this is what it means.
pub record CipherMeans (draft key : List ℕ) (m : Meaning) : Type 0 where
  pub cipher : KCipher
  pub is : CipherOf draft key cipher
  pub means : m ≡ cipher_means cipher

-- Why the bytes make no cipher: the draft's fault, which is the only one; or a draft is spelt, and this is the first no of what is asked of
-- the key.
abbrev pub NoneBy : List ℕ → List ℕ → NoCipher → Type 0
NoneBy draft key (Draft fault) = TheFault draft fault
NoneBy draft key (Key refusal) = (parts : Parts) × TheDraft draft parts × (asked parts key 24 ≡ Some refusal)

-- What it reads as: `refused`, and what the fault reads as, or the refusal's number and words.
abbrev pub no_cipher_text : (Fault → Option (List ℕ)) → NoCipher → Option (List ℕ)
no_cipher_text fault_text (Draft fault) = Some (codes "refused ") ++? fault_text fault
no_cipher_text fault_text (Key refusal) = Some (codes "refused " ++ decimal (number_of refusal) ++ codes ": " ++ words_of refusal)
