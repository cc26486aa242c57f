-- What holds after a list of calls, from what the list answers and leaves by the definition.
use Rattle.std.proofs.Common.{◌≡◌, ℕ, List, [], length, Ok, Err, Result, sym, ap, ◌∙◌, subst}
use Rattle.meanings.specs.Meaning.{Lawful}
use Rattle.book.specs.declared.call.Answer.{Answer}
use Rattle.book.specs.declared.refusal.Refusal.{Refusal}
use Rattle.book.specs.declared.role.Role.{Role}
use Rattle.book.specs.declared.row.Row.{Row}
use Rattle.book.specs.Rows.{ColumnMeanings, coding_of}
use Rattle.book.specs.Book.{Keeps}
use Rattle.book.specs.Accepted.{RowsTold}
use Rattle.book.specs.Asked.{Asked}
use Rattle.book.specs.Runs.{State, answers, after_all, book_after_all, Promise}
use Rattle.book.proofs.Runs.{run_kept}
use Rattle.release.specs.Opening.{ReadAs}
use Rattle.release.specs.Calls.{Opened, open_answer}
use Rattle.release.specs.Listed.{state_of}
use Rattle.release.specs.Promises.{BookKept, ListDone, RanFrom}
use Rattle.release.specs.Views.{setup_of, with_taken}
use Rattle.release.specs.declared.plain.Plain.{Plain}

pub list_done : (o : Plain) (memory : List Row) (m : ColumnMeanings) → ((r : Role) → Lawful (coding_of m r)) → (cs : List Asked) (told : List (Result Answer Refusal)) (o' : Plain) (memory' : List Row)
    → told ≡ answers (setup_of o m) (state_of o memory) cs
    → state_of o' memory' ≡ after_all (setup_of o m) (state_of o memory) cs
    → o' ≡ with_taken o o'.taken
    → ListDone o memory m cs told o' memory'
list_done o memory m lawful cs told o' memory' answered left release =
    record {
      answered = answered;
      left = left;
      release = release;
      book = λ b k.
          let run = run_kept (setup_of o m) lawful (state_of o memory) b cs k in
          record {
            answers = answered ∙ run.answered;
            keeps = subst (λ (st : State). Keeps (setup_of o m) st.taken st.memory (book_after_all (setup_of o m) b cs)) (sym left) run.keeps;
            promise = subst (λ (st : State). Promise (setup_of o m) st (book_after_all (setup_of o m) b cs)) (sym left) run.promise;
            rows = subst (λ rs. RowsTold cs rs b (book_after_all (setup_of o m) b cs)) (sym answered) run.rows;
          };
    }

-- an answer that is read as something is that
read_ok : {X Y : Type 0} (a : Result Y Refusal) (x : X) (v : X → Y) → ReadAs a (Ok x) v → a ≡ Ok (v x)
read_ok (Ok y) x v h = ap Ok (sym h)
read_ok (Err e) x v h = absurd h

pub ran_from : (letters : List ℕ) (memory zeroed : List Row) (o : Plain) (m : ColumnMeanings) (cs : List Asked) (told : List (Result Answer Refusal)) (o' : Plain) (memory' : List Row)
    → Opened letters memory (Ok o) zeroed → ListDone o zeroed m cs told o' memory' → RanFrom letters memory m cs o' told memory'
ran_from letters memory zeroed o m cs told o' memory' opened done =
    let same : setup_of o' m ≡ setup_of o m = ap (λ p. setup_of p m) done.release in
    let roles : o'.columns ≡ o.columns = ap (λ p. p.columns) done.release in
    record {
      roles = read_ok (open_answer letters (length memory)) o (λ p. p.columns) opened.answer ∙ ap Ok (sym roles);
      records = ap (λ p. p.records) done.release ∙ opened.fresh.records;
      book = subst (λ s. BookKept s [] cs told o'.taken memory') (sym same) (done.book [] (opened.fresh.empty m));
    }
