-- Narrowings whose codes may take long to work out.
use Rattle.std.specs.Prelude.{ℕ, ◌+◌, ◌*◌, min, Bool, cond, nat_lt}
use Rattle.meanings.specs.Piles.{Pile, leaf, chain_of, turn_of, narrow_of, meaning}

-- The numbers up to a top outnumber those that are left of them up to another by more than a million to one.
abbrev pub outnumbers : ℕ → ℕ → Bool
outnumbers below to = nat_lt (1000000 * (min to below + 1)) (below + 1)

-- How many narrowings of a pile are long.
abbrev pub long_count : Pile → ℕ
long_count (leaf m l) = 0
long_count (chain_of p q) = long_count p + long_count q
long_count (turn_of p) = long_count p
long_count (narrow_of t p) = long_count p + cond (outnumbers (meaning p).top t) 1 0
