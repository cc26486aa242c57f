-- What a coding of a given meaning answers when it is asked.
use Rattle.std.specs.Prelude.{ℕ, true, false, Ok, Err, Result, nat_le}
use Rattle.meanings.specs.Layers.{turned}
use Rattle.meanings.specs.Meaning.{Meaning}
use Rattle.codings.specs.declared.refusal.AboveTop.{AboveTop}

abbrev pub above_top : AboveTop
above_top = record {}

-- The rule's code of x, or the refusal exactly where x is above the top.
abbrev pub coded : Meaning → ℕ → Result ℕ AboveTop
coded m x = elim (nat_le x m.top) [ true ↦ Ok (m.rule x) | false ↦ Err above_top ]

-- The number whose code is y, or the refusal exactly where y is above the top.
abbrev pub backed : Meaning → ℕ → Result ℕ AboveTop
backed m y = coded (turned m) y
