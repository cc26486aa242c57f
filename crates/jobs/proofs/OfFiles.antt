-- A leaf for the cipher of two files.
use Rattle.std.proofs.Common.{◌≡◌, ℕ, Ok, Err, Result, MatchResult, refl}
use Rattle.kcipher.specs.Bytes.{CipherOf}
use Rattle.kcipher.specs.Ciphers.{cipher_means}
use Rattle.kcipher.specs.declared.cipher.KCipher.{KCipher}
use Rattle.piles.specs.declared.error.PileError.TheVariants.{NoMemory}
use Rattle.jobs.specs.Leaves.{leaf_means}
use Rattle.jobs.specs.Refused.{CipherRefused}
use Rattle.jobs.specs.Written.{Files, OfFiles, IsCipherOf}
use Rattle.jobs.specs.declared.leaf.Leaf.{Leaf}
use Rattle.jobs.specs.declared.unbuilt.Unbuilt.{Unbuilt}
use Rattle.jobs.specs.declared.unbuilt.Unbuilt.TheVariants.{Pile}

cipher_is : (files : Files) (d k : ℕ) (c : KCipher) → OfFiles files d k (λ draft key. CipherOf draft key c) → (l : Leaf)
    → leaf_means l ≡ cipher_means c → IsCipherOf files d k (leaf_means l)
cipher_is files d k c is l e =
    record { draft = is.draft; key = is.key; draft_is = is.draft_is; key_is = is.key_is; bytes = record { cipher = c; is = is.bytes; means = e } }

pub leaf_is : (files : Files) (d k : ℕ) (c : KCipher) → OfFiles files d k (λ draft key. CipherOf draft key c) → (r : Result Leaf Unbuilt)
    → MatchResult r (λ l. leaf_means l ≡ cipher_means c) (λ e. e ≡ Pile NoMemory)
    → MatchResult r (λ l. IsCipherOf files d k (leaf_means l)) (λ e. CipherRefused files d k e)
leaf_is files d k c is (Ok l) e = cipher_is files d k c is l e
leaf_is files d k c is (Err e) was =
    rw was
    (cipher_means c, record { draft = is.draft; key = is.key; draft_is = is.draft_is; key_is = is.key_is; bytes = record { cipher = c; is = is.bytes; means = refl } })
