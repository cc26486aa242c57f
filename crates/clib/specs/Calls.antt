-- What the calls on many numbers answer, and what they leave.
use Rattle.std.specs.Prelude.{◌≡◌, ℕ, List, Result}
use Rattle.meanings.specs.Layers.{turned}
use Rattle.kcipher.specs.Bytes.{CipherOf, NoneBy}
use Rattle.kcipher.specs.Ciphers.{cipher_means}
use Rattle.kcipher.specs.declared.cipher.KCipher.{KCipher}
use Rattle.spelling.specs.Told.{Told}
use Rattle.spelling.specs.declared.fault.Fault.{Fault}
use Rattle.spelling.specs.declared.parts.Parts.{Parts}
use Rattle.clib.specs.Answers.{Tells, draft_answer}
use Rattle.clib.specs.Many.{AllThrough, FirstAboveOf}
use Rattle.clib.specs.declared.answer.Answer.{Answer}
use Rattle.clib.specs.declared.refused.Refused.{Refused}
use Rattle.clib.specs.declared.refused.Refused.TheVariants.{Cipher, Number}

-- The bytes make a cipher, whose key was accepted, and each number is replaced by its code.
abbrev pub AllCoded : (draft key old new : List ℕ) → Type 0
AllCoded draft key old new = (c : KCipher) × CipherOf draft key c × AllThrough (cipher_means c) old new

-- The same, and each code is replaced by its number.
abbrev pub AllBack : (draft key old new : List ℕ) → Type 0
AllBack draft key old new = (c : KCipher) × CipherOf draft key c × AllThrough (turned (cipher_means c)) old new

-- Nothing is written. The draft is asked first, and its fault is told whatever the key is. Then the key is, and its refusal told
-- whatever the numbers are. Only where both make a cipher are the numbers asked, and the first above its top is told.
abbrev pub Unwritten : (draft key old new : List ℕ) → Refused → Type 0
Unwritten draft key old new (Cipher why) = (new ≡ old) × NoneBy draft key why
Unwritten draft key old new (Number which refusal) = (c : KCipher) × CipherOf draft key c × FirstAboveOf (cipher_means c) old new (Number which refusal)

abbrev pub Coded : (draft key old new : List ℕ) → Answer → Type 0
Coded draft key old new = Tells (AllCoded draft key old new) (Unwritten draft key old new)

abbrev pub TurnedBack : (draft key old new : List ℕ) → Answer → Type 0
TurnedBack draft key old new = Tells (AllBack draft key old new) (Unwritten draft key old new)

-- Done where the bytes spell a draft, and else their first fault.
pub record DraftRead (draft : List ℕ) (a : Answer) : Type 0 where
  pub read : Result Parts Fault
  pub told : Told draft read
  pub answer : a ≡ draft_answer read
