-- What a leaf of a written pile means.
use Rattle.meanings.specs.Meaning.{Meaning, Lawful}
use Rattle.meanings.specs.Supplied.{clear, plus}
use Rattle.meanings.proofs.Lawful.{clear_lawful, plus_lawful}
use Rattle.kcipher.specs.Ciphers.{cipher_means, cipher_lawful}
use Rattle.jobs.specs.declared.leaf.Leaf.{Leaf}
use Rattle.jobs.specs.declared.leaf.Leaf.TheVariants.{Clear, Plus, Cipher}

abbrev pub leaf_means : Leaf → Meaning
leaf_means (Clear c) = clear c.top
leaf_means (Plus p) = plus p.top p.k
leaf_means (Cipher b) = cipher_means b.value

pub leaf_lawful : (l : Leaf) → Lawful (leaf_means l)
leaf_lawful (Clear c) = clear_lawful c.top
leaf_lawful (Plus p) = plus_lawful p.top p.k p.small
leaf_lawful (Cipher b) = cipher_lawful b.value
