-- The refusals of a key: their numbers and their words.
use Rattle.std.specs.Prelude.{ℕ, List, codes}
use Rattle.keys.specs.declared.refusal.KeyRefusal.{KeyRefusal}
use Rattle.keys.specs.declared.refusal.KeyRefusal.TheVariants.{ShortWorkSpace, WrongLength, SpareBits}

abbrev pub number_of : KeyRefusal → ℕ
number_of ShortWorkSpace = 10
number_of WrongLength = 11
number_of SpareBits = 12

abbrev pub words_of : KeyRefusal → List ℕ
words_of ShortWorkSpace = codes "the work space has fewer than 24 bytes"
words_of WrongLength = codes "the key has not the bytes that its bits fill"
words_of SpareBits = codes "a spare bit of the key's last byte is not 0"
