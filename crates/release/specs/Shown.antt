-- What is shown of a release that was not opened.
use Rattle.std.specs.Prelude.{ℕ, List, ◌++◌, codes}
use Rattle.std.specs.Fmt.{decimal}
use Rattle.book.specs.Refusals.{number_of, words_of}
use Rattle.release.specs.declared.ran.Unopened.{Unopened}
use Rattle.release.specs.declared.ran.Unopened.TheVariants.{Refused, NoMemory}

abbrev pub unopened_text : Unopened → List ℕ
unopened_text (Refused e) = codes "refused " ++ decimal (number_of e) ++ codes ": " ++ words_of e
unopened_text NoMemory = codes "there is no memory for its answers"
