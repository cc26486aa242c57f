-- What a K-Cipher of the code means.
use Rattle.flows.specs.Flows.{flex_encrypt, flex_decrypt}
use Rattle.flows.specs.Steps.{block}
use Rattle.flows.proofs.Flows.{block_lawful, flex_comes}
use Rattle.kcipher.specs.Rounds.{cpa_does, cpa_undoes, cpa_undone}
use Rattle.kcipher.specs.Settings.{numbers, fits}
use Rattle.kcipher.specs.declared.cipher.KCipher.{KCipher}
use Rattle.kcipher.specs.declared.cipher.KCipher.TheVariants.{Flex, Cpa}
use Rattle.kcipher.specs.declared.cpa.CpaFlow.{CpaFlow}
use Rattle.kcipher.specs.declared.flex.FlexFlow.{FlexFlow}
use Rattle.meanings.specs.Meaning.{Meaning, Lawful}

abbrev pub flex_means : FlexFlow → Meaning
flex_means f = let n = numbers f.setting in block n.width (flex_encrypt n) (flex_decrypt n)

abbrev pub cpa_means : CpaFlow → Meaning
cpa_means f = block f.setting.width.bits (cpa_does f) (cpa_undoes f)

abbrev pub cipher_means : KCipher → Meaning
cipher_means (Flex b) = flex_means b.map
cipher_means (Cpa b) = cpa_means b.map

pub cipher_lawful : (c : KCipher) → Lawful (cipher_means c)
cipher_lawful (Flex b) = let f = b.map in block_lawful _ _ _ (flex_comes (numbers f.setting) (fits f.setting)).undone
cipher_lawful (Cpa b) = block_lawful _ _ _ (cpa_undone b.map)
