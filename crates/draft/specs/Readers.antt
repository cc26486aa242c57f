-- What the reader has read, and what its answers lead to.
use Rattle.std.specs.Prelude.{Some, None, Ok, Err, Option, Result}
use Rattle.spelling.specs.declared.fault.Fault.{Fault}
use Rattle.spelling.specs.declared.parts.Parts.{Parts}
use Rattle.spelling.specs.Reading.{Reading, Turn, More, Done}
use Rattle.draft.specs.declared.reader.Reader.{Reader}
use Rattle.draft.specs.Founds.{reading_at}

abbrev pub reading_of : Reader → Reading
reading_of r = reading_at r.cursor.at r.found

-- The first command leads to a reader.
abbrev pub begun : Result Reader Fault → Result Turn Fault
begun (Ok r) = Ok (More (reading_of r))
begun (Err f) = Err f

-- A turn leads on, to what is read then, or to the parts.
abbrev pub led : Result (Option Parts) Fault → Reading → Result Turn Fault
led (Ok None) s = Ok (More s)
led (Ok (Some p)) s = Ok (Done p)
led (Err f) s = Err f

-- The end leads to the parts.
abbrev pub ended : Result Parts Fault → Result Turn Fault
ended (Ok p) = Ok (Done p)
ended (Err f) = Err f
