-- Where bytes are at fault: what stands from a command on, for each fault by its number. The first command stands at the start of
-- the bytes; each other one behind W, a width n and items. A fault that neither names cannot be there.
use Rattle.std.specs.Prelude.{◌≡◌, ℕ, ◌^◌, ◌<◌, ◌≤◌, true, false, ◌⊎◌, List, [], ◌∷◌, ◌++◌, length, ◌≢◌}
use Rattle.bits.specs.Orders.{FirstFault}
use Rattle.spelling.specs.declared.command.OrderName.{OrderName}
use Rattle.spelling.specs.declared.command.Part.{Part as PartT}
use Rattle.spelling.specs.declared.command.Part.TheVariants.{C0, Order}
use Rattle.spelling.specs.declared.command.Command.{Command}
use Rattle.spelling.specs.declared.command.Command.TheVariants.{Width, Part}
use Rattle.spelling.specs.declared.fault.Reason.{Reason}
use Rattle.spelling.specs.declared.fault.Reason.TheVariants.{NoByte, NoCommand, OutOfSequence, NoUse, BadWidth, TooLarge, NoOrder, Missing, GoesOn}
use Rattle.spelling.specs.Commands.{index_of, letter_of, command_letter, place_of, part_operands, has_use, number, order_size}
use Rattle.spelling.specs.Items.{Item, New, Given, Needed}

-- 1: the letter of a part that is new and of use, and behind it fewer bytes than its operand has.
pub record CutOff (n : ℕ) (items : List Item) (rest : List ℕ) : Type 0 where
  pub part : PartT
  pub behind : List ℕ
  pub is : rest ≡ letter_of part ∷ behind
  pub new : New part items
  pub useful : has_use n (Part part) ≡ true
  pub short : length behind < part_operands part

-- 2: a byte that is the letter of no command.
pub record NoLetter (rest : List ℕ) : Type 0 where
  pub byte : ℕ
  pub behind : List ℕ
  pub is : rest ≡ byte ∷ behind
  pub none : (c : Command) → command_letter c ≢ byte

-- 3, at the start: the letter of a command that is not W.
pub record NotFirst (bytes : List ℕ) : Type 0 where
  pub command : Command
  pub behind : List ℕ
  pub is : bytes ≡ command_letter command ∷ behind
  pub other : command ≢ Width

-- 3, later: W again.
pub record WidthAgain (rest : List ℕ) : Type 0 where
  pub behind : List ℕ
  pub is : rest ≡ 87 ∷ behind

-- 3, later: the letter of a part that was given already.
pub record PartAgain (items : List Item) (rest : List ℕ) : Type 0 where
  pub part : PartT
  pub behind : List ℕ
  pub is : rest ≡ letter_of part ∷ behind
  pub again : Given (place_of part) items

-- 4: the letter of a part that is new, and for which the width has no use.
pub record Useless (n : ℕ) (items : List Item) (rest : List ℕ) : Type 0 where
  pub part : PartT
  pub behind : List ℕ
  pub is : rest ≡ letter_of part ∷ behind
  pub new : New part items
  pub useless : has_use n (Part part) ≡ false

-- 5, at the start: W, and a width below 24 or above 64.
pub record WrongWidth (bytes : List ℕ) : Type 0 where
  pub width : ℕ
  pub behind : List ℕ
  pub is : bytes ≡ 87 ∷ (width ∷ behind)
  pub wrong : (width < 24) ⊎ (64 < width)

-- 6: A, which is new, and eight bytes of a number that is not below 2^n.
pub record LargeC0 (n : ℕ) (items : List Item) (rest : List ℕ) : Type 0 where
  pub operand : List ℕ
  pub behind : List ℕ
  pub is : rest ≡ letter_of C0 ∷ (operand ++ behind)
  pub new : New C0 items
  pub long : length operand ≡ 8
  pub large : 2 ^ n ≤ number operand

-- 7: a digit that is new and of use, and a list of 64 bytes whose first place at fault is p.
pub record FaultyList (n : ℕ) (items : List Item) (rest : List ℕ) (p : ℕ) : Type 0 where
  pub name : OrderName
  pub list : List ℕ
  pub behind : List ℕ
  pub is : rest ≡ letter_of (Order name) ∷ (list ++ behind)
  pub new : New (Order name) items
  pub useful : has_use n (Part (Order name)) ≡ true
  pub long : length list ≡ 64
  pub first : FirstFault (order_size n (index_of name)) list p

-- 8: Z, and a part that the width needs is not among the items.
pub record Lacking (n : ℕ) (items : List Item) (rest : List ℕ) : Type 0 where
  pub part : PartT
  pub behind : List ℕ
  pub is : rest ≡ 90 ∷ behind
  pub needed : Needed n (place_of part)
  pub lacks : New part items

-- 9: Z, where everything needed was given, and a byte behind it.
pub record Trailing (n : ℕ) (items : List Item) (rest : List ℕ) : Type 0 where
  pub byte : ℕ
  pub behind : List ℕ
  pub is : rest ≡ 90 ∷ (byte ∷ behind)
  pub all : (k : ℕ) → Needed n k → Given k items

-- What is at fault at the first command, for each reason. Without any byte, or with W alone, it is 1.
abbrev pub NoAtStart : List ℕ → Reason → Type 0
NoAtStart bytes NoByte = (bytes ≡ []) ⊎ (bytes ≡ 87 ∷ [])
NoAtStart bytes NoCommand = NoLetter bytes
NoAtStart bytes OutOfSequence = NotFirst bytes
NoAtStart bytes BadWidth = WrongWidth bytes
NoAtStart bytes why = ⊥

-- What is at fault at a later command, which stands behind W, a width n and items.
abbrev pub NoLater : ℕ → List Item → List ℕ → Reason → Type 0
NoLater n items rest NoByte = (rest ≡ []) ⊎ CutOff n items rest
NoLater n items rest NoCommand = NoLetter rest
NoLater n items rest OutOfSequence = WidthAgain rest ⊎ PartAgain items rest
NoLater n items rest NoUse = Useless n items rest
NoLater n items rest BadWidth = ⊥
NoLater n items rest TooLarge = LargeC0 n items rest
NoLater n items rest (NoOrder p) = FaultyList n items rest p
NoLater n items rest Missing = Lacking n items rest
NoLater n items rest GoesOn = Trailing n items rest
