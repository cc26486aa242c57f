-- What turn back makes of the code that show answers.
use Rattle.std.proofs.Common.{◌≡◌, ℕ, ◌<◌, true, eqb, ltb, List, length, get_or, Ok, sym, ap, ◌∙◌}
use Rattle.std.proofs.lemmas.List.{get_or_default}
use Rattle.std.proofs.lemmas.Bool.{ltb-true}
use Rattle.book.specs.declared.row.Row.{Row}
use Rattle.book.specs.Raw.{stands, record_at, entry_coding, show_answer, turn_back_answer}
use Rattle.book.specs.Rows.{Setup}
use Rattle.book.specs.declared.entry.Entry.{Entry}
use Rattle.book.specs.declared.role.Role.{Role}
use Rattle.book.proofs.Asking.{ask_yes, ask_ok}
use Rattle.release.specs.Coder.{one_back}

-- what turn back answers where show answered this code, under the same roles and as many records
pub turned_back : (s t : Setup) (taken : ℕ) (memory : List Row) (e : Entry) (code : ℕ) → t.roles ≡ s.roles → t.records ≡ s.records
    → Ok code ≡ show_answer t taken memory e
    → (e.column < length s.roles) × (one_back (entry_coding s e) code ≡ turn_back_answer s taken memory e)
turned_back s t taken memory e code roles records answered =
    let a = ask_ok (eqb (length memory) t.records) _ _ code (sym answered) in
    let b = ask_ok (stands taken memory e.row) _ _ code a.1 in
    let c = ask_ok (ltb e.column (length t.roles)) _ _ code b.1 in
    let found : get_or (record_at memory e.row).numbers e.column 0 ≡ code = let f = c.1 in cc in
    let exists : ltb e.column (length s.roles) ≡ true = rw (sym roles) c.0 in (
      ltb-true e.column (length s.roles) exists,
      sym (ask_yes (eqb (length memory) s.records) _ _ (rw (sym records) a.0)
          ∙ ask_yes (stands taken memory e.row) _ _ b.0
          ∙ ask_yes (ltb e.column (length s.roles)) _ _ exists
          ∙ ap (one_back (entry_coding s e)) found),
    )

-- the role of a column that exists
pub role_there : (rs roles : List Role) (column : ℕ) (d e : Role) → rs ≡ roles → column < length roles → get_or rs column d ≡ get_or roles column e
role_there rs roles column d e same lt = ap (λ zs. get_or zs column d) same ∙ get_or_default roles column d e lt
