-- The refusal of a coding: its number and its words.
use Rattle.std.specs.Prelude.{ℕ, List, codes}
use Rattle.codings.specs.declared.refusal.AboveTop.{AboveTop}

-- A number above the top of a coding is refusal 13.
abbrev pub number_of : AboveTop → ℕ
number_of r = 13

abbrev pub words_of : AboveTop → List ℕ
words_of r = codes "the number is above the coding's top"
