-- What was found of a draft so far.
use Rattle.std.specs.Prelude.{ℕ, ◌∷◌, Bool, List, map, replicate, Ok, Err, Option, Result, is_some, unwrap_or}
use Rattle.spelling.specs.declared.fault.Fault.{Fault}
use Rattle.spelling.specs.declared.parts.Flow.TheVariants.{Flex}
use Rattle.spelling.specs.declared.parts.Parts.{Parts}
use Rattle.spelling.specs.Reading.{Reading}
use Rattle.draft.specs.declared.found.Found.{Found}

-- Which of the nine parts were given.
abbrev pub given_of : Found → List Bool
given_of f = is_some f.flow ∷ (is_some f.c0 ∷ (is_some f.c1 ∷ map is_some f.orders))

abbrev pub list_of : Option (List ℕ) → List ℕ
list_of o = unwrap_or o (replicate 64 0)

-- What was not given yet is zero.
abbrev pub parts_of : Found → Parts
parts_of f = record {
  width = f.width.bits;
  flow = unwrap_or f.flow Flex;
  c0 = unwrap_or f.c0 0;
  c1 = unwrap_or f.c1 0;
  orders = map list_of f.orders;
}

-- The reading at an offset.
abbrev pub reading_at : ℕ → Found → Reading
reading_at at f = record { at = at; given = given_of f; parts = parts_of f }

-- The parts after one more.
abbrev pub then_parts : Result (Unit {0}) Fault → Parts → Result Parts Fault
then_parts (Ok u) p = Ok p
then_parts (Err f) p = Err f
