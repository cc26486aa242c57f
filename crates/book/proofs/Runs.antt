-- Lists of calls: every answer is the book's, and what then holds.
use Rattle.std.proofs.Common.{◌≡◌, ℕ, ◌≤◌, ltb, leb, List, [], ◌∷◌, length, get_or, Ok, Result, sym, refl, ap, ◌∙◌, subst}
use Rattle.std.proofs.lemmas.Bool.{ltb-true, le-leb, lt-ltb}
use Rattle.meanings.specs.Meaning.{Meaning, Lawful, Same}
use Rattle.meanings.proofs.Orbits.{one_to_one}
use Rattle.book.specs.declared.refusal.Refusal.{Refusal}
use Rattle.book.specs.declared.entry.Entry.{Entry}
use Rattle.book.specs.declared.role.Role.{Role}
use Rattle.book.specs.declared.role.Role.TheVariants.{Clear}
use Rattle.book.specs.declared.row.Row.{Row}
use Rattle.book.specs.declared.call.Answer.TheVariants.{Put, Withdrawn, Shown, TurnedBack, Tally}
use Rattle.book.specs.Rows.{Setup, coding_of}
use Rattle.book.specs.Raw.{show_answer, entry_coding}
use Rattle.book.specs.Book.{BookRow, row_at, row_stands, entry_number, entry_code, book_show, Keeps}
use Rattle.book.specs.Asked.{Asked, put, withdraw, show, turn_back, tally}
use Rattle.book.specs.Runs.{told, State, answer, after, answers, book_answer, book_after, book_after_all, StandingEntry, Promise, RunKept}
use Rattle.book.proofs.Accepted.{told_none, told_more}
use Rattle.book.proofs.Asking.{ask_yes, ask_ok}
use Rattle.book.proofs.Kept.{within_at, fit_at, put_kept, withdraw_kept, show_kept, turn_back_kept, tally_kept}

-- two numbers that the same answer gives
ok_same : (a : Result ℕ Refusal) (m n : ℕ) → a ≡ Ok m → a ≡ Ok n → m ≡ n
ok_same a m n p q = cc

-- two numbers under equal codings have equal codes exactly when they are equal
codes_same : (m n : Meaning) → Lawful n → Same m n → (u v : ℕ) → u ≤ m.top → v ≤ n.top → (m.rule u ≡ n.rule v → u ≡ v) × (u ≡ v → m.rule u ≡ n.rule v)
codes_same m n l same u v hu hv =
    (λ h. one_to_one n l u v (subst (λ t. u ≤ t) same.tops hu) hv (sym (same.rules u hu) ∙ h), λ h. same.rules u hu ∙ ap n.rule h)

-- the number of an entry is within the top of its coding
entry_within : (s : Setup) (taken : ℕ) (memory : List Row) (b : List BookRow) → Keeps s taken memory b → (e : Entry) → StandingEntry s b e → entry_number b e ≤ (entry_coding s e).top
entry_within s taken memory b k e st =
    let fit = fit_at s taken memory b k e.row st.row in
    within_at s.codings s.roles (row_at b e.row).numbers e.column st.place fit.0 fit.1

-- the book shows an entry's code
book_shows : (s : Setup) (b : List BookRow) (e : Entry) → StandingEntry s b e → book_show s b e ≡ Ok (entry_code s b e)
book_shows s b e st = ask_yes (row_stands b e.row) _ _ st.row ∙ ask_yes (ltb e.column (length s.roles)) _ _ (lt-ltb e.column (length s.roles) st.place)

module _ (s : Setup) (lawful : (r : Role) → Lawful (coding_of s.codings r)) where
  pub call_kept : (st : State) (b : List BookRow) (c : Asked) → Keeps s st.taken st.memory b
      → (answer s st c ≡ book_answer s b c) × Keeps s (after s st c).taken (after s st c).memory (book_after s b c)
  call_kept st b (put xs) k = let p = put_kept s st.taken st.memory b k xs in (ap (told Put) p.0, p.1)
  call_kept st b (withdraw i) k = let p = withdraw_kept s st.taken st.memory b k i in (ap (told (λ _. Withdrawn)) p.0, p.1)
  call_kept st b (show e) k = (ap (told Shown) (show_kept s st.taken st.memory b k e), k)
  call_kept st b (turn_back e) k = (ap (told TurnedBack) (turn_back_kept s st.taken st.memory b k lawful e), k)
  call_kept st b tally k = (ap (told Tally) (tally_kept s st.taken st.memory b k), k)

  pub promise_kept : (st : State) (b : List BookRow) → Keeps s st.taken st.memory b → Promise s st b
  promise_kept st b k = record {
    shows = shown;
    turns_back = λ e here. turn_back_kept s st.taken st.memory b k lawful e
        ∙ ask_yes (row_stands b e.row) _ _ here.row
        ∙ ask_yes (ltb e.column (length s.roles)) _ _ (lt-ltb e.column (length s.roles) here.place)
        ∙ ask_yes (leb (entry_code s b e) (entry_coding s e).top) _ _
        (le-leb (entry_code s b e) (entry_coding s e).top ((entry_lawful e).within (entry_number b e) (low e here)));
    only_standing = λ e n h.
        let p = ask_ok (row_stands b e.row) _ _ n (sym (turn_back_kept s st.taken st.memory b k lawful e) ∙ h) in
        let q = ask_ok (ltb e.column (length s.roles)) _ _ n p.1 in
        record { row = p.0; place = ltb-true e.column (length s.roles) q.0 };
    tallies = tally_kept s st.taken st.memory b k;
    equal_codes = λ e f x y here there same hx hy.
        let ex = ok_same _ x (entry_code s b e) hx (shown e here) in
        let ey = ok_same _ y (entry_code s b f) hy (shown f there) in
        let p = codes_same (entry_coding s e) (entry_coding s f) (entry_lawful f) same (entry_number b e) (entry_number b f) (low e here) (low f there) in
        (λ h. p.0 (sym ex ∙ h ∙ ey), λ h. ex ∙ p.1 h ∙ sym ey);
  }
    where
      entry_lawful : (e : Entry) → Lawful (entry_coding s e)
      entry_lawful e = lawful (get_or s.roles e.column Clear)

      low : (e : Entry) → StandingEntry s b e → entry_number b e ≤ (entry_coding s e).top
      low e here = entry_within s st.taken st.memory b k e here

      shown : (e : Entry) → StandingEntry s b e → show_answer s st.taken st.memory e ≡ Ok (entry_code s b e)
      shown e here = show_kept s st.taken st.memory b k e ∙ book_shows s b e here

  pub run_kept : (st : State) (b : List BookRow) (cs : List Asked) → Keeps s st.taken st.memory b → RunKept s st b cs
  run_kept st b [] k = record { answered = refl; keeps = k; promise = promise_kept st b k; rows = told_none b }
  run_kept st b (c ∷ cs) k =
      let p = call_kept st b c k in
      let r = run_kept (after s st c) (book_after s b c) cs p.1 in
      record {
        answered = cc (p.0, r.answered);
        keeps = r.keeps;
        promise = r.promise;
        rows = told_more s b (book_after_all s (book_after s b c) cs) c cs (answer s st c) (answers s (after s st c) cs) p.0 r.rows;
      }
