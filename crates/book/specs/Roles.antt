-- The letters of roles.
use Rattle.std.specs.Prelude.{ℕ, cond, Some, None, Option, Result, ◌==◌}
use Rattle.std.specs.Option.{ok_or}
use Rattle.book.specs.declared.refusal.Refusal.{Refusal}
use Rattle.book.specs.declared.refusal.Refusal.TheVariants.{RoleLetter}
use Rattle.book.specs.declared.role.Role.{Role}
use Rattle.book.specs.declared.role.Role.TheVariants.{Yarn, Hands, Clear}

-- Y (89) is yarn, H (72) is hands, C (67) is clear.
abbrev pub role_of : ℕ → Option Role
role_of l = cond (l == 89) (Some Yarn) (cond (l == 72) (Some Hands) (cond (l == 67) (Some Clear) None))

-- The role of a letter, or refusal 15.
abbrev pub role_read : ℕ → Result Role Refusal
role_read l = ok_or (role_of l) RoleLetter
