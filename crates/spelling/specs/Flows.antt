-- The names of the flows.
use Rattle.std.specs.Prelude.{ℕ, List, codes}
use Rattle.spelling.specs.declared.parts.Flow.{Flow}
use Rattle.spelling.specs.declared.parts.Flow.TheVariants.{Flex, Cpa}

abbrev pub name_of : Flow → List ℕ
name_of Flex = codes "Flex"
name_of Cpa = codes "CPA"
