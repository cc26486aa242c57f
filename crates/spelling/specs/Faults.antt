-- The faults of a draft: their numbers, layers and words, and the line that shows one.
use Rattle.std.specs.Prelude.{ℕ, List, [], ◌++◌, Some, None, codes, Option}
use Rattle.std.specs.Fmt.{decimal}
use Rattle.spelling.specs.declared.fault.Fault.{Fault}
use Rattle.spelling.specs.declared.fault.Layer.{Layer}
use Rattle.spelling.specs.declared.fault.Layer.TheVariants.{Bytes, Commands, Orders}
use Rattle.spelling.specs.declared.fault.Reason.{Reason}
use Rattle.spelling.specs.declared.fault.Reason.TheVariants.{NoByte, NoCommand, OutOfSequence, NoUse, BadWidth, TooLarge, NoOrder, Missing, GoesOn}

abbrev pub number_of : Reason → ℕ
number_of NoByte = 1
number_of NoCommand = 2
number_of OutOfSequence = 3
number_of NoUse = 4
number_of BadWidth = 5
number_of TooLarge = 6
number_of (NoOrder p) = 7
number_of Missing = 8
number_of GoesOn = 9

-- bytes for 1 and 9, orders for 7, commands for the others
abbrev pub layer_of : Reason → Layer
layer_of NoByte = Bytes
layer_of NoCommand = Commands
layer_of OutOfSequence = Commands
layer_of NoUse = Commands
layer_of BadWidth = Commands
layer_of TooLarge = Commands
layer_of (NoOrder p) = Orders
layer_of Missing = Commands
layer_of GoesOn = Bytes

abbrev pub name_of : Layer → List ℕ
name_of Bytes = codes "bytes"
name_of Commands = codes "commands"
name_of Orders = codes "orders"

-- Fault 7 adds the list place.
abbrev pub place_in : Reason → Option ℕ
place_in NoByte = None
place_in NoCommand = None
place_in OutOfSequence = None
place_in NoUse = None
place_in BadWidth = None
place_in TooLarge = None
place_in (NoOrder p) = Some p
place_in Missing = None
place_in GoesOn = None

abbrev pub words_of : Reason → List ℕ
words_of NoByte = codes "the draft ends too early"
words_of NoCommand = codes "this is no command letter"
words_of OutOfSequence = codes "W comes first, and each command once"
words_of NoUse = codes "this width has no use for the command"
words_of BadWidth = codes "the width is not 24 to 64"
words_of TooLarge = codes "C0 does not fit into the width"
words_of (NoOrder p) = codes "the list is no order"
words_of Missing = codes "something needed has not been given"
words_of GoesOn = codes "the draft goes on after Z"

abbrev pub place_text : Option ℕ → List ℕ
place_text None = []
place_text (Some p) = codes " place " ++ decimal p

-- One line: number, offset, layer, the list place where there is one, and the words.
abbrev pub line_of : Fault → List ℕ
line_of f =
    decimal (number_of f.reason) ++ (codes " offset " ++ (decimal f.offset ++ (codes " layer " ++ (name_of (layer_of f.reason) ++ (
    place_text (place_in f.reason) ++ (codes ": " ++ words_of f.reason))))))
