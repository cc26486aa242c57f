-- What opening a release asks of its columns.
use Rattle.std.specs.Prelude.{◌≡◌, ℕ, ◌&&◌, List, [], ◌∷◌, ◌++◌, length, Ok, Err, Result, nat_le, nat_lt}
use Rattle.book.specs.declared.refusal.Refusal.{Refusal}
use Rattle.book.specs.declared.refusal.Refusal.TheVariants.{Columns}
use Rattle.book.specs.declared.role.Role.{Role}
use Rattle.book.specs.Refusals.{ask}
use Rattle.book.specs.Roles.{role_read}

-- Roles in front of others, where those can be read.
abbrev pub in_front : List Role → Result (List Role) Refusal → Result (List Role) Refusal
in_front rs (Ok more) = Ok (rs ++ more)
in_front rs (Err e) = Err e

-- The roles of role letters, or the refusal where one is none.
abbrev pub roles_of : List ℕ → Result (List Role) Refusal
roles_of [] = Ok []
roles_of (l ∷ ls) = elim (role_read l) [ Ok r ↦ in_front (r ∷ []) (roles_of ls) | Err e ↦ Err e ]

-- 1 to 8 columns, each with a role.
abbrev pub columns_of : List ℕ → Result (List Role) Refusal
columns_of ls = ask (nat_lt 0 (length ls) && nat_le (length ls) 8) Columns (roles_of ls)

-- r holds what a gives, where v reads it, or the same refusal.
abbrev pub ReadAs : {X Y : Type 0} → Result Y Refusal → Result X Refusal → (X → Y) → Type 0
ReadAs (Ok y) (Ok x) v = v x ≡ y
ReadAs (Ok y) (Err e) v = ⊥
ReadAs (Err d) (Ok x) v = ⊥
ReadAs (Err d) (Err e) v = e ≡ d
