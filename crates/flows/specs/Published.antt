-- The published K-Cipher of a draft and a key.
use Rattle.std.specs.Prelude.{ℕ, ◌-◌, ◌^◌, List}
use Rattle.meanings.specs.Meaning.{Meaning}
use Rattle.flows.specs.Flows.{Setting, flex_encrypt, flex_decrypt, cpa_encrypt, cpa_decrypt}
use Rattle.flows.specs.Keys.{order_of, round_key, randomizer, round_box, round_box_back}
use Rattle.spelling.specs.declared.parts.Flow.TheVariants.{Flex, Cpa}
use Rattle.spelling.specs.declared.parts.Parts.{Parts}

abbrev pub setting : Parts → List ℕ → Setting
setting p key = record {
  width = p.width;
  c0 = p.c0;
  order0 = order_of p 0 p.width;
  order1 = order_of p 1 p.width;
  order2 = order_of p 2 p.width;
  order3 = order_of p 3 p.width;
  k0 = round_key p key 0;
  k1 = round_key p key 1;
  k2 = round_key p key 2;
}

abbrev pub encrypt : Parts → List ℕ → ℕ → ℕ
encrypt p key x = elim p.flow [
  | Flex ↦ flex_encrypt (setting p key) x
  | Cpa ↦ (let box = round_box p.width (randomizer p key) in cpa_encrypt (setting p key) (box 0) (box 1) (box 2) x)
]

abbrev pub decrypt : Parts → List ℕ → ℕ → ℕ
decrypt p key y = elim p.flow [
  | Flex ↦ flex_decrypt (setting p key) y
  | Cpa ↦ (let box = round_box_back p.width (randomizer p key) in cpa_decrypt (setting p key) (box 0) (box 1) (box 2) y)
]

-- As a coding: all numbers of its width, encryption for the rule and decryption for the way back.
abbrev pub published : Parts → List ℕ → Meaning
published p key = record { top = 2 ^ p.width - 1; rule = encrypt p key; back = decrypt p key }
