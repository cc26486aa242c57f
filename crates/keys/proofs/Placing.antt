-- A box finds its random parts at its own place in those of its round.
use Rattle.std.proofs.Common.{ℕ, ◌+◌, ◌*◌, List}
use Rattle.flows.specs.Keys.{randomizer}
use Rattle.flows.proofs.Ciphers.{random_of_bits}
use Rattle.flows.proofs.Cutting.{number_cut}
use Rattle.keys.specs.Expanding.{Placed}
use Rattle.spelling.specs.declared.parts.Parts.{Parts}

pub placed : (p : Parts) (key : List ℕ) (j : ℕ) → Placed p key j
placed p key j =
    let bits = random_of_bits p key in
    record {
      first = λ q m h. number_cut (randomizer p key) bits (2 * j * p.width) p.width q m h;
      second = λ q m h. number_cut (randomizer p key) bits ((2 * j + 1) * p.width) p.width q m h;
    }
