-- What a release is to the definitions: what it was opened with, and its state.
use Rattle.std.specs.Prelude.{◌≡◌, ℕ, ◌-◌, ◌<◌, true, false, List, length, Some, None, Option}
use Rattle.meanings.specs.Meaning.{Meaning}
use Rattle.meanings.specs.Supplied.{clear}
use Rattle.book.specs.Raw.{record_at, stands}
use Rattle.book.specs.declared.row.Row.{Row}
use Rattle.book.specs.Rows.{ColumnMeanings, Setup}
use Rattle.release.specs.declared.column_codings.ColumnCodings.{ColumnCodings}
use Rattle.release.specs.declared.plain.Plain.{Plain}

-- what column codings mean, by what a yarn coding and a hands coding mean
abbrev pub meanings_of : {Y H : Type 0} → (Y → Meaning) → (H → Meaning) → ColumnCodings Y H → ColumnMeanings
meanings_of y h codings = record { yarn = y codings.yarn; hands = h codings.hands }

-- a release whose calls are given codings that mean m
abbrev pub setup_of : Plain → ColumnMeanings → Setup
setup_of o m = record { roles = o.columns; records = o.records; codings = m }

-- where no coding is asked, the codings do not matter: clear stands for both
abbrev pub plain_setup : Plain → Setup
plain_setup o = setup_of o (record { yarn = clear 0; hands = clear 0 })

-- the release with so many places taken
abbrev pub with_taken : Plain → ℕ → Plain
with_taken o n = record { columns = o.columns; records = o.records; taken = n }

-- The place of the record of the row numbered i, where that row stands.
abbrev pub Standing : (taken : ℕ) → List Row → ℕ → Option ℕ → Type 0
Standing taken memory i None = stands taken memory i ≡ false
Standing taken memory i (Some p) = (stands taken memory i ≡ true) × (p ≡ i - 1) × (p < length memory)

-- The record of the row numbered i, where that row stands.
abbrev pub StandingRecord : (taken : ℕ) → List Row → ℕ → Option Row → Type 0
StandingRecord taken memory i None = stands taken memory i ≡ false
StandingRecord taken memory i (Some r) = (stands taken memory i ≡ true) × (r ≡ record_at memory i)
