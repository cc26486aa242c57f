-- The two supplied codings that are no layer.
use Rattle.std.specs.Prelude.{ℕ, ◌+◌, ◌-◌, ◌%◌, true, false, nat_le}
use Rattle.meanings.specs.Meaning.{Meaning}

-- Clear changes nothing: under any top, a number is coded as itself.
abbrev pub clear : ℕ → Meaning
clear t = record { top = t; rule = λ x. x; back = λ y. y }

-- Plus adds k, which is no larger than its top t, and begins again at 0 behind t: the sum counts modulo t + 1.
abbrev pub plus : ℕ → ℕ → Meaning
plus t k = record {
  top = t;
  rule = λ x. (x + k) % (t + 1);
  back = λ y. elim (nat_le k y) [ true ↦ y - k | false ↦ y + (t + 1) - k ];
}
