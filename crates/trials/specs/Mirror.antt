-- A coding that the library does not supply: the numbers up to the top in reverse.
use Rattle.std.specs.Prelude.{ℕ, ◌-◌}
use Rattle.std.proofs.Common.{arith}
use Rattle.meanings.specs.Meaning.{Meaning, Lawful}

abbrev pub mirror : ℕ → Meaning
mirror t = record { top = t; rule = λ x. t - x; back = λ y. t - y }

pub mirror_lawful : (t : ℕ) → Lawful (mirror t)
mirror_lawful t = record {
  within = λ x h. omega arith;
  lands = λ y h. omega arith;
  undoes = λ x h. omega arith;
  redoes = λ y h. omega arith;
}
