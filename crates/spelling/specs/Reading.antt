-- The code's own steps: how far a draft has been read.
use Rattle.std.specs.Prelude.{ℕ, Bool, List}
use Rattle.spelling.specs.declared.parts.Parts.{Parts}

-- The offset of the next command, which of the nine parts were given, and what was found.
pub record Reading : Type 0 where
  pub at : ℕ
  pub given : List Bool
  pub parts : Parts

-- What a command leads to: another one, or the end of the draft.
pub data Turn : Type 0 where
  More : Reading → Turn
  Done : Parts → Turn
