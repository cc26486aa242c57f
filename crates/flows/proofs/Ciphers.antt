-- The published cipher of a sound draft is lawful, and a coding with its numbers is that cipher.
use Rattle.std.proofs.Common.{◌≡◌, ℕ, ◌-◌, ◌*◌, ◌^◌, ◌<◌, Bool, true, false, List, ltb, refl, ap, ◌∙◌}
use lib.Bits.{bit_xor}
use Rattle.bits.specs.Bits.{bit}
use Rattle.bits.specs.Orders.{moved, gathered}
use Rattle.bits.specs.Words.{wrapped_sum, wrapped_difference}
use Rattle.bits.proofs.Bits.{bit_below}
use Rattle.boxes.specs.Boxes.{cpa_box, cpa_box_back}
use Rattle.meanings.specs.Meaning.{Lawful, Equal}
use Rattle.spelling.specs.declared.parts.Flow.{Flow}
use Rattle.spelling.specs.declared.parts.Flow.TheVariants.{Flex, Cpa}
use Rattle.spelling.specs.declared.parts.Parts.{Parts}
use Rattle.spelling.specs.Sound.{SoundParts}
use Rattle.flows.specs.Flows.{Setting, Kind, through_boxes, flex_encrypt, flex_decrypt, cpa_encrypt, cpa_decrypt}
use Rattle.flows.specs.Keys.{first_row, second_row, round_key, round_box, round_box_back, randomizer, schedule, with_more, expanded}
use Rattle.flows.specs.Published.{setting, published}
use Rattle.flows.specs.Steps.{block}
use Rattle.flows.specs.Strings.{byte_bit}
use Rattle.flows.proofs.Cutting.{OfBits, number_below, round_same, round_back_same, round_boxed}
use Rattle.flows.proofs.Flows.{Fits, block_lawful, flex_comes, cpa_comes}

pub byte_bits : (bytes : List ℕ) → OfBits (byte_bit bytes)
byte_bits bytes i = bit_below _ _

with_bits : (s : ℕ → ℕ) (more : ℕ) → OfBits s → OfBits (with_more s more)
with_bits s more b i = go (ltb i 128)
  where
    go : (t : Bool) → (elim t [ true ↦ s i | false ↦ bit more (i - 128) ]) < 2
    go true = b i
    go false = bit_below _ _

pub schedule_of_bits : (p : Parts) (key : List ℕ) → OfBits (schedule p key)
schedule_of_bits p key = go (ltb 32 p.width)
  where
    go : (t : Bool) → OfBits (elim t [ true ↦ with_more (byte_bit key) (expanded p key) | false ↦ byte_bit key ])
    go true = with_bits (byte_bit key) (expanded p key) (byte_bits key)
    go false = byte_bits key

pub round_key_below : (p : Parts) (key : List ℕ) (j : ℕ) → round_key p key j < 2 ^ p.width
round_key_below p key j = number_below (schedule p key) (schedule_of_bits p key) (j * p.width) p.width

pub random_of_bits : (p : Parts) (key : List ℕ) → OfBits (randomizer p key)
random_of_bits p key i = bit_below _ _

pub setting_fits : (p : Parts) (key : List ℕ) → SoundParts p → Fits (setting p key)
setting_fits p key s =
    record {
      least = s.least;
      most = s.most;
      o0 = s.order0;
      o1 = s.order1;
      o2 = s.order2;
      o3 = s.order3;
      small = round_key_below p key 2;
    }

module _ (p : Parts) (key : List ℕ) (sound : SoundParts p) where
  abbrev boxes : ℕ → Kind
  boxes = round_box p.width (randomizer p key)

  abbrev backs : ℕ → Kind
  backs = round_box_back p.width (randomizer p key)

  pub published_lawful : Lawful (published p key)
  published_lawful = go p.flow refl
    where
      go : (f : Flow) → p.flow ≡ f → Lawful (published p key)
      go Flex e = rw e (block_lawful p.width _ _ (flex_comes (setting p key) (setting_fits p key sound)).undone)
      go Cpa e =
          let b = round_boxed p.width (randomizer p key) (random_of_bits p key) sound.least sound.most in
          rw e (block_lawful p.width _ _ (cpa_comes (setting p key) (setting_fits p key sound) (boxes 0) (boxes 1) (boxes 2) (backs 0) (backs 1) (backs 2) (b 0) (b 1) (b 2)).undone)

  -- A Flex coding with the numbers of the draft and the key is their cipher.
  pub flex_is : (s : Setting) → s ≡ setting p key → p.flow ≡ Flex → Equal (block s.width (flex_encrypt s) (flex_decrypt s)) (published p key)
  flex_is s e f =
      rw (e, f) (record { same = record { tops = refl; rules = λ x h. refl }; backs = record { backs = λ y h. refl } })

-- CPA with boxes that come to the same.
module _ (s : Setting) (f0 f1 f2 g0 g1 g2 : Kind)
    (h0 : (x : ℕ) → through_boxes s.width f0 x ≡ through_boxes s.width g0 x)
    (h1 : (x : ℕ) → through_boxes s.width f1 x ≡ through_boxes s.width g1 x)
    (h2 : (x : ℕ) → through_boxes s.width f2 x ≡ through_boxes s.width g2 x) where
  pub encrypt_same : (x : ℕ) → cpa_encrypt s f0 f1 f2 x ≡ cpa_encrypt s g0 g1 g2 x
  encrypt_same x =
      let n = s.width in
      let veil = moved s.order3 s.k2 in
      ap (λ z. bit_xor (through_boxes n f2 (moved s.order2 (wrapped_sum n (through_boxes n f1 (moved s.order1 (wrapped_sum n z s.k1))) s.k2))) veil) (h0 _)
      ∙ ap (λ z. bit_xor (through_boxes n f2 (moved s.order2 (wrapped_sum n z s.k2))) veil) (h1 _)
      ∙ ap (λ z. bit_xor z veil) (h2 _)

  pub decrypt_same : (y : ℕ) → cpa_decrypt s f0 f1 f2 y ≡ cpa_decrypt s g0 g1 g2 y
  decrypt_same y =
      let n = s.width in
      let veil = moved s.order3 s.k2 in
      ap (λ z. wrapped_difference n (wrapped_difference n (gathered s.order0 (through_boxes n f0 (wrapped_difference n (gathered s.order1 (through_boxes n f1 (wrapped_difference n (gathered s.order2 z) s.k2))) s.k1))) s.k0) s.c0) (h2 _)
      ∙ ap (λ z. wrapped_difference n (wrapped_difference n (gathered s.order0 (through_boxes n f0 (wrapped_difference n (gathered s.order1 z) s.k1))) s.k0) s.c0) (h1 _)
      ∙ ap (λ z. wrapped_difference n (wrapped_difference n (gathered s.order0 z) s.k0) s.c0) (h0 _)

-- A CPA coding whose boxes find their random parts in numbers of n bits.
pub cpa_is : (p : Parts) (key : List ℕ) → SoundParts p → (s : Setting) (a0 b0 a1 b1 a2 b2 : ℕ) → s ≡ setting p key → p.flow ≡ Cpa
    → a0 ≡ first_row p.width (randomizer p key) 0 → b0 ≡ second_row p.width (randomizer p key) 0
    → a1 ≡ first_row p.width (randomizer p key) 1 → b1 ≡ second_row p.width (randomizer p key) 1
    → a2 ≡ first_row p.width (randomizer p key) 2 → b2 ≡ second_row p.width (randomizer p key) 2
    → Equal
    (block s.width (cpa_encrypt s (cpa_box a0 b0) (cpa_box a1 b1) (cpa_box a2 b2)) (cpa_decrypt s (cpa_box_back a0 b0) (cpa_box_back a1 b1) (cpa_box_back a2 b2)))
    (published p key)
cpa_is p key sound s a0 b0 a1 b1 a2 b2 e f ea0 eb0 ea1 eb1 ea2 eb2 =
    let bits = random_of_bits p key in
    let random = randomizer p key in
    let there = round_same p.width random bits sound.least sound.most in
    let home = round_back_same p.width random bits sound.least sound.most in
    rw (e, f, ea0, eb0, ea1, eb1, ea2, eb2) (record {
      same = record { tops = refl; rules = λ x h. encrypt_same (setting p key) _ _ _ _ _ _ (there 0) (there 1) (there 2) x };
      backs = record { backs = λ y h. decrypt_same (setting p key) _ _ _ _ _ _ (home 0) (home 1) (home 2) y };
    })
