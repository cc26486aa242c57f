-- Numbers through a cipher that the bytes make.
use Rattle.std.proofs.Common.{◌≡◌, ℕ, List, Ok, Err, Result, MatchResult}
use Rattle.meanings.specs.Layers.{turned}
use Rattle.kcipher.specs.Bytes.{CipherOf}
use Rattle.kcipher.specs.Ciphers.{cipher_means}
use Rattle.kcipher.specs.declared.cipher.KCipher.{KCipher}
use Rattle.clib.specs.Calls.{AllCoded, AllBack, Unwritten}
use Rattle.clib.specs.Many.{AllThrough, FirstAboveOf}
use Rattle.clib.specs.declared.refused.Refused.{Refused}
use Rattle.clib.specs.declared.refused.Refused.TheVariants.{Cipher, Number}

unwritten : (draft key old new : List ℕ) (c : KCipher) → CipherOf draft key c → (e : Refused) → FirstAboveOf (cipher_means c) old new e → Unwritten draft key old new e
unwritten draft key old new c is (Cipher why) h = absurd h
unwritten draft key old new c is (Number which refusal) h = (c, is, h)

pub coded : (draft key old new : List ℕ) (c : KCipher) → CipherOf draft key c → (r : Result (Unit {0}) Refused)
    → MatchResult r (λ _. AllThrough (cipher_means c) old new) (λ e. FirstAboveOf (cipher_means c) old new e)
    → MatchResult r (λ _. AllCoded draft key old new) (λ e. Unwritten draft key old new e)
coded draft key old new c is (Ok u) h = (c, is, h)
coded draft key old new c is (Err e) h = unwritten draft key old new c is e h

back : (draft key old new : List ℕ) (c : KCipher) → CipherOf draft key c → (r : Result (Unit {0}) Refused)
    → MatchResult r (λ _. AllThrough (turned (cipher_means c)) old new) (λ e. FirstAboveOf (turned (cipher_means c)) old new e)
    → MatchResult r (λ _. AllBack draft key old new) (λ e. Unwritten draft key old new e)
back draft key old new c is (Ok u) h = (c, is, h)
back draft key old new c is (Err e) h = unwritten draft key old new c is e h

pub turned_back : (draft key old new : List ℕ) (c : KCipher) → CipherOf draft key c → (below : KCipher) → below ≡ c → (r : Result (Unit {0}) Refused)
    → MatchResult r (λ _. AllThrough (turned (cipher_means below)) old new) (λ e. FirstAboveOf (turned (cipher_means below)) old new e)
    → MatchResult r (λ _. AllBack draft key old new) (λ e. Unwritten draft key old new e)
turned_back draft key old new c is below same r h = back draft key old new c is r (rw same at h)
