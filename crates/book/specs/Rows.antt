-- Rows of numbers, their codes, and the records of row memory.
use Rattle.std.specs.Prelude.{ℕ, ◌-◌, ◌^◌, Bool, true, false, ◌&&◌, List, [], ◌∷◌, ◌++◌, length, replicate, nat_le}
use Rattle.meanings.specs.Meaning.{Meaning}
use Rattle.meanings.specs.Supplied.{clear}
use Rattle.book.specs.declared.role.Role.{Role}
use Rattle.book.specs.declared.role.Role.TheVariants.{Yarn, Hands, Clear}
use Rattle.book.specs.declared.row.Row.{Row}

-- What the codings of a release's columns mean.
pub record ColumnMeanings : Type 0 where
  pub yarn : Meaning
  pub hands : Meaning

-- What a release is opened with and what its calls are given: the roles of its columns, how many row
-- records there are, and what the codings of its columns mean.
pub record Setup : Type 0 where
  pub roles : List Role
  pub records : ℕ
  pub codings : ColumnMeanings

-- The coding of a column of this role: a clear column has clear with top 2^64 - 1.
abbrev pub coding_of : ColumnMeanings → Role → Meaning
coding_of m Yarn = m.yarn
coding_of m Hands = m.hands
coding_of m Clear = clear (2 ^ 64 - 1)

-- Is each number at most the top of its column's coding?
abbrev pub within : ColumnMeanings → List Role → List ℕ → Bool
within m [] xs = true
within m (r ∷ rs) [] = true
within m (r ∷ rs) (x ∷ xs) = nat_le x (coding_of m r).top && within m rs xs

-- The codes of a row's numbers, column by column.
abbrev pub codes : ColumnMeanings → List Role → List ℕ → List ℕ
codes m [] xs = []
codes m (r ∷ rs) [] = []
codes m (r ∷ rs) (x ∷ xs) = (coding_of m r).rule x ∷ codes m rs xs

-- Eight numbers: these, with zeros after them.
abbrev pub padded : List ℕ → List ℕ
padded cs = cs ++ replicate (8 - length cs) 0

-- The record of a standing row with these codes, and the record that is all zero.
abbrev pub marked : List ℕ → Row
marked cs = record { numbers = padded cs; standing = true }

abbrev pub blank : Row
blank = record { numbers = replicate 8 0; standing = false }
