-- What is asked before a key is expanded, and what is left in the work space.
use Rattle.std.specs.Prelude.{ℕ, Bool, true, false, List, ◌++◌, length, drop, replicate, Option, Some, None, ◌==◌, nat_le}
use Rattle.spelling.specs.declared.parts.Parts.{Parts}
use Rattle.flows.specs.Keys.{key_bytes, spare}
use Rattle.keys.specs.declared.refusal.KeyRefusal.{KeyRefusal}
use Rattle.keys.specs.declared.refusal.KeyRefusal.TheVariants.{ShortWorkSpace, WrongLength, SpareBits}

-- A question with its refusal, and the questions after it: the first no decides.
abbrev pub ask : Bool → KeyRefusal → Option KeyRefusal → Option KeyRefusal
ask true refusal rest = rest
ask false refusal rest = Some refusal

-- The key has the bytes that its bits fill, and in the spare bits of the last one stands 0.
abbrev pub asked_key : Parts → List ℕ → Option KeyRefusal
asked_key p key = ask (length key == key_bytes p) WrongLength (ask (spare p key == 0) SpareBits None)

-- All questions, where the work space has so many bytes.
abbrev pub asked : Parts → List ℕ → ℕ → Option KeyRefusal
asked p key room = ask (nat_le 24 room) ShortWorkSpace (asked_key p key)

-- A work space that is long enough begins with 24 zeros afterwards, whatever was answered; a shorter one stays as it was.
abbrev pub work_after : List ℕ → List ℕ
work_after work = elim (nat_le 24 (length work)) [ true ↦ replicate 24 0 ++ drop 24 work | false ↦ work ]
