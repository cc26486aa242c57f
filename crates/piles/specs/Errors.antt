-- The words of what keeps a layer from being laid.
use Rattle.std.specs.Prelude.{ℕ, List, codes}
use Rattle.piles.specs.declared.error.PileError.{PileError}
use Rattle.piles.specs.declared.error.PileError.TheVariants.{NoMemory, TooHigh}

abbrev pub words_of : PileError → List ℕ
words_of NoMemory = codes "there is no memory for another layer"
words_of TooHigh = codes "a pile has at most 1000 layers above one another"
