-- The signs and numbers of a text.
use Rattle.std.specs.List.{AllByRecursion, filter, slice_split}
use Rattle.std.specs.Prelude.{◌≡◌, ℕ, suc, ◌^◌, ◌<◌, ◌≤◌, Bool, true, false, ◌||◌, cond, IsUtf8, List, [], ◌∷◌, ◌++◌, ◌==◌, length}
use Rattle.std.specs.Str.Parse.{IsNumeral, digits_value}
use Rattle.jobs.specs.declared.place.Sign.{Sign}
use Rattle.jobs.specs.declared.place.Sign.TheVariants.{Open, Comma, Close}

-- A space or a tab.
abbrev pub is_space : ℕ → Bool
is_space b = b == 32 || b == 9

-- A text without its spaces.
unfoldable pub squeezed : List ℕ → List ℕ
squeezed [] = []
squeezed (b ∷ bs) = cond (is_space b) (squeezed bs) (b ∷ squeezed bs)

-- How many spaces come first.
unfoldable pub spaces_first : List ℕ → ℕ
spaces_first [] = 0
spaces_first (b ∷ bs) = cond (is_space b) (suc (spaces_first bs)) 0

-- What ends a word: a space or a sign.
abbrev pub ends_word : ℕ → Bool
ends_word b = is_space b || (b == 40 || (b == 44 || b == 41))

abbrev pub not_empty : {T : Type 0} → List T → Bool
not_empty [] = false
not_empty (x ∷ xs) = true

-- The words of a text, which stand apart by spaces.
unfoldable pub words : List ℕ → List (List ℕ)
words s = filter not_empty (slice_split is_space s)

-- No word goes on into this text.
abbrev pub WordOver : List ℕ → Type 0
WordOver [] = Unit {0}
WordOver (b ∷ bs) = ends_word b ≡ true

-- No space comes first.
abbrev pub Flush : List ℕ → Type 0
Flush [] = Unit {0}
Flush (b ∷ bs) = is_space b ≡ false

-- Nothing follows a word, or a space does.
abbrev pub Apart : List ℕ → Type 0
Apart [] = Unit {0}
Apart (b ∷ bs) = is_space b ≡ true

abbrev pub code_of : Sign → ℕ
code_of Open = 40
code_of Comma = 44
code_of Close = 41

-- One or more decimal digits, and the number that they are.
abbrev pub Numeral : List ℕ → ℕ → Type 0
Numeral s n = IsNumeral 10 s × (n ≡ digits_value 10 s)

-- No number from 0 to 2^64 - 1: the word is no such digits, or they are a larger one.
abbrev pub IsNoNumber : List ℕ → Type 0
IsNoNumber s = IsNumeral 10 s → 2 ^ 64 ≤ digits_value 10 s

-- A text is this word, which is not empty.
abbrev pub IsName : List ℕ → List ℕ → Type 0
IsName w s = (s ≡ w) × (0 < length w)

-- No name of a file: the word is empty, or no text in UTF-8.
abbrev pub IsNoName : List ℕ → Type 0
IsNoName s = 0 < length s → IsUtf8 s → ⊥

-- The word that a text begins with, which may be empty.
pub record FirstWord (s w : List ℕ) : Type 0 where
  pub rest : List ℕ
  pub is : s ≡ w ++ rest
  pub whole : AllByRecursion (λ b. ends_word b ≡ false) w
  pub over : WordOver rest
