-- From what a call answers and leaves by the definition to what every book that keeps the release says of it.
use Rattle.std.proofs.Common.{◌≡◌, ℕ, List, [], length, replicate, Ok, Result, sym, ap, ◌∙◌, subst, ◌-◌, arith}
use Rattle.meanings.specs.Meaning.{Lawful}
use Rattle.book.specs.declared.entry.Entry.{Entry}
use Rattle.book.specs.declared.refusal.Refusal.{Refusal}
use Rattle.book.specs.declared.role.Role.{Role}
use Rattle.book.specs.declared.row.Row.{Row}
use Rattle.book.specs.Rows.{ColumnMeanings, coding_of, blank}
use Rattle.book.specs.Raw.{put_answer, put_memory, put_taken, withdraw_answer, withdraw_memory, show_answer, turn_back_answer, tally_answer}
use Rattle.book.specs.Book.{after_put, after_withdraw, Keeps}
use Rattle.book.specs.Asked.{Asked}
use Rattle.book.specs.Runs.{State, answer, after, book_after}
use Rattle.book.specs.declared.call.Answer.{Answer}
use Rattle.book.proofs.Runs.{call_kept, run_kept}
use Rattle.release.specs.Listed.{state_of}
use Rattle.book.proofs.Kept.{coding_lawful, put_kept, withdraw_kept, show_kept, turn_back_kept, tally_kept}
use Rattle.release.specs.Views.{setup_of, plain_setup, with_taken}
use Rattle.release.specs.Calls.{Allowed, Opened, PutDone, WithdrawDone, ShowDone, TurnBackDone, TallyDone, CallDone}
use Rattle.release.specs.declared.plain.Plain.{Plain}

-- what the questions of opening allow is open once row memory is zero
pub opened : (letters : List ℕ) (memory memory' : List Row) (o : Plain)
    → Allowed letters (length memory) (Ok o) → memory' ≡ replicate (length memory) blank → Opened letters memory (Ok o) memory'
opened letters memory memory' o allowed zeroed =
    let fresh = allowed.fresh in
    let free : length memory ≡ o.records - 0 = omega (arith, fresh.0) in
    let empty : (m : ColumnMeanings) → Keeps (setup_of o m) o.taken memory' [] =
    λ m. record {
      places = fresh.1;
      fits = omega arith;
      narrow = fresh.2;
      rows = tt;
      held = zeroed ∙ ap (λ n. replicate n blank) free;
    } in
    record {
      answer = allowed.answer;
      fresh = record {
        records = fresh.0;
        taken = fresh.1;
        zeroed = zeroed;
        empty = empty;
        runs = λ m ly lh cs. run_kept (setup_of o m) (coding_lawful m ly lh) (state_of o memory') [] cs (empty m);
      };
    }

module _ (o : Plain) (memory : List Row) where
  pub put_done : (m : ColumnMeanings) (xs : List ℕ) (r : Result ℕ Refusal) (o' : Plain) (memory' : List Row)
      → r ≡ put_answer (setup_of o m) o.taken memory xs
      → o' ≡ with_taken o (put_taken (setup_of o m) o.taken memory xs)
      → memory' ≡ put_memory (setup_of o m) o.taken memory xs
      → PutDone o memory m xs r o' memory'
  put_done m xs r o' memory' answer release rows =
      record {
        answer = answer;
        release = release;
        rows = rows;
        book = λ b k.
            let kept = put_kept (setup_of o m) o.taken memory b k xs in (
              answer ∙ kept.0,
              subst (λ p. Keeps (setup_of p m) p.taken memory' (after_put (setup_of o m) b xs)) (sym release)
                  (subst (λ rs. Keeps (setup_of o m) (put_taken (setup_of o m) o.taken memory xs) rs (after_put (setup_of o m) b xs)) (sym rows) kept.1),
            );
      }

  pub withdraw_done : (i : ℕ) (r : Result (Unit {0}) Refusal) (memory' : List Row)
      → r ≡ withdraw_answer (plain_setup o) o.taken memory i → memory' ≡ withdraw_memory (plain_setup o) o.taken memory i
      → WithdrawDone o memory i r memory'
  withdraw_done i r memory' answer rows =
      record {
        answer = answer;
        rows = rows;
        book = λ m b k.
            let kept = withdraw_kept (setup_of o m) o.taken memory b k i in
            (answer ∙ kept.0, subst (λ rs. Keeps (setup_of o m) o.taken rs (after_withdraw (setup_of o m) b i)) (sym rows) kept.1);
      }

  pub show_done : (e : Entry) (r : Result ℕ Refusal) → r ≡ show_answer (plain_setup o) o.taken memory e → ShowDone o memory e r
  show_done e r answer =
      record { answer = answer; book = λ m b k. answer ∙ show_kept (setup_of o m) o.taken memory b k e }

  pub turn_back_done : (m : ColumnMeanings) → ((r : Role) → Lawful (coding_of m r)) → (e : Entry) (r : Result ℕ Refusal)
      → r ≡ turn_back_answer (setup_of o m) o.taken memory e → TurnBackDone o memory m e r
  turn_back_done m lawful e r answer =
      record { answer = answer; book = λ b k. answer ∙ turn_back_kept (setup_of o m) o.taken memory b k lawful e }

  pub tally_done : (r : Result (ℕ × ℕ) Refusal) → r ≡ tally_answer (plain_setup o) o.taken memory → TallyDone o memory r
  tally_done r answer = record { answer = answer; book = λ m b k. answer ∙ tally_kept (setup_of o m) o.taken memory b k }

  pub call_done : (m : ColumnMeanings) → ((r : Role) → Lawful (coding_of m r)) → (c : Asked) (r : Result Answer Refusal) (o' : Plain) (memory' : List Row)
      → r ≡ answer (setup_of o m) (state_of o memory) c
      → state_of o' memory' ≡ after (setup_of o m) (state_of o memory) c
      → o' ≡ with_taken o o'.taken
      → CallDone o memory m c r o' memory'
  call_done m lawful c r o' memory' answered left release =
      record {
        answered = answered;
        left = left;
        release = release;
        book = λ b k.
            let kept = call_kept (setup_of o m) lawful (state_of o memory) b c k in
            (answered ∙ kept.0, subst (λ (st : State). Keeps (setup_of o m) st.taken st.memory (book_after (setup_of o m) b c)) (sym left) kept.1);
      }
