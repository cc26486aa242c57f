-- What building answers.
use Rattle.std.specs.Prelude.{◌≡◌, ℕ, ◌≤◌, Result, MatchResult}
use Rattle.meanings.specs.Meaning.{Meaning}
use Rattle.piles.specs.Stacking.{highest}
use Rattle.kcipher.specs.Ciphers.{cipher_means}
use Rattle.kcipher.specs.declared.cipher.KCipher.{KCipher}
use Rattle.piles.specs.Trees.{tree_meaning, height_of}
use Rattle.piles.specs.declared.error.PileError.TheVariants.{NoMemory}
use Rattle.jobs.specs.Leaves.{leaf_means, leaf_lawful}
use Rattle.jobs.specs.Written.{Files, Means}
use Rattle.jobs.specs.Refused.{Refused, height}
use Rattle.jobs.specs.declared.built.Built.{Built}
use Rattle.jobs.specs.declared.leaf.Leaf.{Leaf}
use Rattle.jobs.specs.declared.unbuilt.Unbuilt.{Unbuilt}
use Rattle.jobs.specs.declared.unbuilt.Unbuilt.TheVariants.{Pile}
use Rattle.jobs.specs.declared.written.Written.{Written}

-- A leaf that means what a cipher does, or no memory for it.
abbrev pub LeafOf : KCipher → Result Leaf Unbuilt → Type 0
LeafOf cipher r = MatchResult r (λ l. leaf_means l ≡ cipher_means cipher) (λ e. e ≡ Pile NoMemory)

abbrev pub built_meaning : Built → Meaning
built_meaning b = tree_meaning leaf_means leaf_lawful b.pile.tree

abbrev pub built_height : Built → ℕ
built_height b = height_of b.pile.tree

-- A pile was built of what is written: it means that and is as high, and no higher than a pile may be.
pub record BuiltOf (files : Files) (w : Written) (b : Built) : Type 0 where
  pub means : Means files w (built_meaning b)
  pub tall : built_height b ≡ height w
  pub low : height w ≤ highest

-- Such a pile, or why what is written is refused.
abbrev pub Answers : Files → Written → Result Built Unbuilt → Type 0
Answers files w r = MatchResult r (λ b. BuiltOf files w b) (λ e. Refused files w e)
