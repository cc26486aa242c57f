-- What the loop over commands keeps: the rest of the run gives the answer.
use Rattle.std.proofs.Common.{◌≡◌, ℕ, zero, suc, ◌+◌, ◌<◌, ◌≤◌, List, length, Ok, Err, sym, ap, ◌∙◌, arith}
use Rattle.spelling.specs.declared.fault.Fault.{Fault}
use Rattle.spelling.specs.declared.parts.Parts.{Parts}
use Rattle.spelling.specs.Reading.{Reading, More, Done}
use Rattle.spelling.specs.Turns.{start, turn}
use Rattle.spelling.proofs.Advancing.{Good, advances}
use Rattle.spelling.proofs.Running.{run, read_parts, run_fails, run_ends, run_goes}

pub record Kept (bytes : List ℕ) (s : Reading) : Type 0 where
  pub good : Good s
  pub within : s.at ≤ length bytes
  pub left : ℕ
  pub enough : length bytes < s.at + left
  pub gives : run left bytes s ≡ read_parts bytes

pub kept_start : (bytes : List ℕ) (s : Reading) → s ≡ start → Kept bytes s
kept_start bytes s e =
    let none : s.at ≡ 0 = ap (λ z. z.at) e in
    record {
      good = λ some. absurd (omega (arith, none));
      within = omega (arith, none);
      left = length bytes + 1;
      enough = omega (arith, none);
      gives = ap (run (length bytes + 1) bytes) e;
    }

-- there is a turn left
record Next (bytes : List ℕ) (s : Reading) : Type 0 where
  k : ℕ
  enough : length bytes < s.at + suc k
  gives : run (suc k) bytes s ≡ read_parts bytes

next : (bytes : List ℕ) (s : Reading) → Kept bytes s → Next bytes s
next bytes s kept = go kept.left kept.enough kept.gives
  where
    go : (k : ℕ) → length bytes < s.at + k → run k bytes s ≡ read_parts bytes → Next bytes s
    go zero few e = absurd (omega (arith, kept.within, few))
    go (suc k) few e = record { k = k; enough = few; gives = e }

pub kept_more : (bytes : List ℕ) (s s' : Reading) → Kept bytes s → turn bytes s ≡ Ok (More s') → Kept bytes s'
kept_more bytes s s' kept e =
    let n = next bytes s kept in
    let a = advances bytes s s' kept.good e in
    record {
      good = a.2;
      within = a.1;
      left = n.k;
      enough = omega (arith, n.enough, a.0);
      gives = sym (run_goes n.k bytes s s' e) ∙ n.gives;
    }

pub kept_done : (bytes : List ℕ) (s : Reading) (p : Parts) → Kept bytes s → turn bytes s ≡ Ok (Done p) → Ok p ≡ read_parts bytes
kept_done bytes s p kept e = let n = next bytes s kept in sym (run_ends n.k bytes s p e) ∙ n.gives

pub kept_fault : (bytes : List ℕ) (s : Reading) (f : Fault) → Kept bytes s → turn bytes s ≡ Err f → Err f ≡ read_parts bytes
kept_fault bytes s f kept e = let n = next bytes s kept in sym (run_fails n.k bytes s f e) ∙ n.gives
