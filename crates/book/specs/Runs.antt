-- Lists of calls: what the release answers and leaves, what the book answers, and what then holds.
use Rattle.std.specs.Prelude.{◌≡◌, ℕ, ◌<◌, true, List, [], ◌∷◌, length, Ok, Err, Result}
use Rattle.meanings.specs.Meaning.{Same}
use Rattle.book.specs.declared.entry.Entry.{Entry}
use Rattle.book.specs.declared.refusal.Refusal.{Refusal}
use Rattle.book.specs.declared.row.Row.{Row}
use Rattle.book.specs.declared.call.Answer.{Answer}
use Rattle.book.specs.declared.call.Answer.TheVariants.{Put, Withdrawn, Shown, TurnedBack, Tally}
use Rattle.book.specs.Asked.{Asked, put, withdraw, show, turn_back, tally}
use Rattle.book.specs.Rows.{Setup}
use Rattle.book.specs.Raw.{put_answer, put_memory, put_taken, withdraw_answer, withdraw_memory, show_answer, turn_back_answer, tally_answer, entry_coding}
use Rattle.book.specs.Book.{BookRow, row_stands, entry_number, count_standing, book_put, after_put, book_withdraw, after_withdraw, book_show, book_turn_back, book_tally, Keeps}
use Rattle.book.specs.Accepted.{RowsTold}

-- What a call told, as an answer where it was not refused.
abbrev pub told : {X : Type 0} → (X → Answer) → Result X Refusal → Result Answer Refusal
told f (Ok x) = Ok (f x)
told f (Err e) = Err e

-- The state of an open release: the places taken and the row memory.
pub record State : Type 0 where
  pub taken : ℕ
  pub memory : List Row

module _ (s : Setup) where
  -- what a call answers and leaves, whatever the row memory holds
  abbrev pub answer : State → Asked → Result Answer Refusal
  answer st (put xs) = told Put (put_answer s st.taken st.memory xs)
  answer st (withdraw i) = told (λ _. Withdrawn) (withdraw_answer s st.taken st.memory i)
  answer st (show e) = told Shown (show_answer s st.taken st.memory e)
  answer st (turn_back e) = told TurnedBack (turn_back_answer s st.taken st.memory e)
  answer st tally = told Tally (tally_answer s st.taken st.memory)

  abbrev pub after : State → Asked → State
  after st (put xs) = record { taken = put_taken s st.taken st.memory xs; memory = put_memory s st.taken st.memory xs }
  after st (withdraw i) = record { taken = st.taken; memory = withdraw_memory s st.taken st.memory i }
  after st (show e) = st
  after st (turn_back e) = st
  after st tally = st

  abbrev pub answers : State → List Asked → List (Result Answer Refusal)
  answers st [] = []
  answers st (c ∷ cs) = answer st c ∷ answers (after st c) cs

  abbrev pub after_all : State → List Asked → State
  after_all st [] = st
  after_all st (c ∷ cs) = after_all (after st c) cs

  -- the same of the book
  abbrev pub book_answer : List BookRow → Asked → Result Answer Refusal
  book_answer b (put xs) = told Put (book_put s b xs)
  book_answer b (withdraw i) = told (λ _. Withdrawn) (book_withdraw s b i)
  book_answer b (show e) = told Shown (book_show s b e)
  book_answer b (turn_back e) = told TurnedBack (book_turn_back s b e)
  book_answer b tally = told Tally (book_tally s b)

  abbrev pub book_after : List BookRow → Asked → List BookRow
  book_after b (put xs) = after_put s b xs
  book_after b (withdraw i) = after_withdraw s b i
  book_after b (show e) = b
  book_after b (turn_back e) = b
  book_after b tally = b

  abbrev pub book_answers : List BookRow → List Asked → List (Result Answer Refusal)
  book_answers b [] = []
  book_answers b (c ∷ cs) = book_answer b c ∷ book_answers (book_after b c) cs

  abbrev pub book_after_all : List BookRow → List Asked → List BookRow
  book_after_all b [] = b
  book_after_all b (c ∷ cs) = book_after_all (book_after b c) cs

  -- A standing entry of the book: its row stands, and there is its column.
  pub record StandingEntry (b : List BookRow) (e : Entry) : Type 0 where
    pub row : row_stands b e.row ≡ true
    pub place : e.column < length s.roles

  -- What holds of a release that the book b keeps, where st is its state.
  -- Show gives each standing entry's code and turn back its number; tally gives the rows put and the rows
  -- standing; and two standing entries under equal codings have equal codes exactly when their numbers are
  -- equal, in whichever rows and columns.
  pub record Promise (st : State) (b : List BookRow) : Type 0 where
    pub shows : (e : Entry) → StandingEntry b e → show_answer s st.taken st.memory e ≡ Ok ((entry_coding s e).rule (entry_number b e))
    pub turns_back : (e : Entry) → StandingEntry b e → turn_back_answer s st.taken st.memory e ≡ Ok (entry_number b e)
    pub only_standing : (e : Entry) (n : ℕ) → turn_back_answer s st.taken st.memory e ≡ Ok n → StandingEntry b e
    pub tallies : tally_answer s st.taken st.memory ≡ Ok (length b, count_standing b)
    pub equal_codes : (e f : Entry) (x y : ℕ) → StandingEntry b e → StandingEntry b f → Same (entry_coding s e) (entry_coding s f)
        → show_answer s st.taken st.memory e ≡ Ok x → show_answer s st.taken st.memory f ≡ Ok y
        → (x ≡ y → entry_number b e ≡ entry_number b f) × (entry_number b e ≡ entry_number b f → x ≡ y)

  -- After any list of calls on a release that the book b keeps: every answer is the book's, the book after
  -- the list keeps what is left, so that the promise holds, and that book's rows are those that the calls and
  -- their answers tell.
  pub record RunKept (st : State) (b : List BookRow) (cs : List Asked) : Type 0 where
    pub answered : answers st cs ≡ book_answers b cs
    pub keeps : Keeps s (after_all st cs).taken (after_all st cs).memory (book_after_all b cs)
    pub promise : Promise (after_all st cs) (book_after_all b cs)
    pub rows : RowsTold cs (answers st cs) b (book_after_all b cs)
