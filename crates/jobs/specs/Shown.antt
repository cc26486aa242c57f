-- What places, what is wrong with a text, and the refusal of a written pile read as.
use Rattle.std.specs.Fmt.{decimal}
use Rattle.std.specs.Prelude.{ℕ, List, ◌++◌, Option, Some, None, codes}
use Rattle.jobs.specs.declared.place.BadText.{BadText}
use Rattle.jobs.specs.declared.place.HeadWord.TheVariants.{Yarn, Hands, Roles, Records}
use Rattle.jobs.specs.declared.place.HeadWord.{HeadWord}
use Rattle.jobs.specs.declared.place.Place.{Place}
use Rattle.jobs.specs.declared.place.Sign.TheVariants.{Open, Comma, Close}
use Rattle.jobs.specs.declared.place.Sign.{Sign}
use Rattle.jobs.specs.declared.place.Wrong.TheVariants as wrong
use Rattle.jobs.specs.declared.place.Wrong.{Wrong}
use Rattle.jobs.specs.declared.unbuilt.Unbuilt.TheVariants.{AboveTop, NoFile, Draft, Key, Pile}
use Rattle.jobs.specs.declared.unbuilt.Unbuilt.{Unbuilt}
use Rattle.keys.specs.Refusal.{number_of, words_of}
use Rattle.piles.specs.Errors.{words_of as words_of_layer}
use Rattle.spelling.specs.Faults.{line_of}

abbrev pub place_text : Place → List ℕ
place_text p = codes "line " ++ (decimal p.line ++ (codes " column " ++ decimal p.column))

abbrev pub sign_words : Sign → List ℕ
sign_words Open = codes "'(' belongs here"
sign_words Comma = codes "',' belongs here"
sign_words Close = codes "')' belongs here"

abbrev pub head_words : HeadWord → List ℕ
head_words Yarn = codes "the head needs a line yarn with a coding"
head_words Hands = codes "the head needs a line hands with a coding"
head_words Roles = codes "the head needs a line roles with role letters"
head_words Records = codes "the head needs a line records with a number"

abbrev pub wrong_words : Wrong → List ℕ
wrong_words wrong.UnknownName = codes "a coding is clear, plus, kcipher, chain, turned or narrowed"
wrong_words wrong.NoNumber = codes "a number from 0 to 18446744073709551615 belongs here"
wrong_words wrong.NoName = codes "a name belongs here"
wrong_words (wrong.MissingSign s) = sign_words s
wrong_words wrong.GoesOn = codes "nothing may follow here"
wrong_words wrong.TooDeep = codes "at most 1000 codings may stand inside one another"
wrong_words wrong.NoMemory = codes "there is no memory for what is written here"
wrong_words wrong.UnknownWord = codes "a line begins with yarn, hands, roles, records, rows, withdraw, show, turnback, tally, draft or sheet"
wrong_words (wrong.MissingLine h) = head_words h
wrong_words wrong.TwiceGiven = codes "this line was given already"
wrong_words wrong.LateHead = codes "this line belongs before the first step"

-- One line: the place and what is wrong there.
abbrev pub bad_text : BadText → List ℕ
bad_text e = place_text e.place ++ (codes ": " ++ wrong_words e.wrong)

abbrev pub plus_words : List ℕ
plus_words = codes "13: the constant of a plus is above its top"

abbrev pub missing_words : List ℕ
missing_words = codes "a file is missing"

-- A draft's fault and a key's refusal with their numbers. Which file it is stands in the refusal, and is not told here.
abbrev pub unbuilt_text : Unbuilt → Option (List ℕ)
unbuilt_text AboveTop = Some plus_words
unbuilt_text (NoFile i) = Some missing_words
unbuilt_text (Draft i fault) = Some (line_of fault)
unbuilt_text (Key i refusal) = Some (decimal (number_of refusal) ++ codes ": " ++ words_of refusal)
unbuilt_text (Pile error) = Some (words_of_layer error)

-- The same under a width and the like, by which a text is padded; of a draft's fault and a key's refusal nothing is said then.
abbrev pub padded_unbuilt_text : (List ℕ → List ℕ) → Unbuilt → Option (List ℕ)
padded_unbuilt_text padding AboveTop = Some (padding plus_words)
padded_unbuilt_text padding (NoFile i) = Some (padding missing_words)
padded_unbuilt_text padding (Draft i fault) = None
padded_unbuilt_text padding (Key i refusal) = None
padded_unbuilt_text padding (Pile error) = Some (padding (words_of_layer error))
