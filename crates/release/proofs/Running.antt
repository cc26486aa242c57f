-- The loop over a list of calls: what it keeps from call to call.
use Rattle.std.proofs.Common.{◌≡◌, ℕ, ◌+◌, ◌<◌, ◌≤◌, List, [], ◌∷◌, ◌++◌, map, length, get_or, drop, Result, sym, ap, ◌∙◌, append_assoc, append-nil}
use Rattle.std.proofs.lemmas.List.{drop_more, drop_all}
use Rattle.book.specs.declared.call.Answer.{Answer}
use Rattle.book.specs.declared.call.Call.{Call}
use Rattle.book.specs.declared.refusal.Refusal.{Refusal}
use Rattle.book.specs.Rows.{Setup}
use Rattle.book.specs.Runs.{State, answer, after, answers, after_all}
use Rattle.release.specs.Listed.{asked_of}

-- The calls begin in the state begin.
module _ (s : Setup) (begin : State) (calls : List Call) where
  -- After j calls the answers so far and those to come are all the answers, and what is to come ends where the
  -- whole list ends.
  pub record Underway (j : ℕ) (st : State) (told : List (Result Answer Refusal)) : Type 0 where
    pub tells : told ++ answers s st (map asked_of (drop j calls)) ≡ answers s begin (map asked_of calls)
    pub ends : after_all s st (map asked_of (drop j calls)) ≡ after_all s begin (map asked_of calls)

  pub run_goes : (j : ℕ) (st st' : State) (told told' : List (Result Answer Refusal)) (a : Result Answer Refusal) (d : Call) (s' : Setup) → s' ≡ s → j < length calls
      → a ≡ answer s' st (asked_of (get_or calls j d)) → st' ≡ after s' st (asked_of (get_or calls j d))
      → told' ≡ told ++ a ∷ [] → Underway j st told → Underway (j + 1) st' told'
  run_goes j st st' told told' a d s' same lt ans' nxt' more u =
      let c = get_or calls j d in
      let ans : a ≡ answer s st (asked_of c) = ans' ∙ ap (λ z. answer z st (asked_of c)) same in
      let nxt : st' ≡ after s st (asked_of c) = nxt' ∙ ap (λ z. after z st (asked_of c)) same in
      let cut : drop j calls ≡ c ∷ drop (j + 1) calls = drop_more calls j d lt in
      let rest = map asked_of (drop (j + 1) calls) in
      record {
        tells = ap (λ zs. zs ++ answers s st' rest) more
            ∙ append_assoc told (a ∷ []) (answers s st' rest)
            ∙ ap (λ x. told ++ x ∷ answers s st' rest) ans
            ∙ ap (λ x. told ++ answer s st (asked_of c) ∷ answers s x rest) nxt
            ∙ sym (ap (λ zs. told ++ answers s st (map asked_of zs)) cut)
            ∙ u.tells;
        ends = ap (λ x. after_all s x rest) nxt ∙ sym (ap (λ zs. after_all s st (map asked_of zs)) cut) ∙ u.ends;
      }

  pub run_ends : (j : ℕ) (st : State) (told : List (Result Answer Refusal)) → length calls ≤ j → Underway j st told
      → (told ≡ answers s begin (map asked_of calls)) × (st ≡ after_all s begin (map asked_of calls))
  run_ends j st told ge u =
      let none = drop_all j calls ge in (
        sym (append-nil told) ∙ sym (ap (λ zs. told ++ answers s st (map asked_of zs)) none) ∙ u.tells,
        sym (ap (λ zs. after_all s st (map asked_of zs)) none) ∙ u.ends,
      )
