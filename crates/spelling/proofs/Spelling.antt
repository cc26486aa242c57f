-- The reader accepts what spells a draft and nothing else, and refuses by the first no and nothing else.
use Rattle.std.proofs.Common.{◌≡◌, ℕ, zero, suc, ◌+◌, ◌<◌, ◌≤◌, List, [], ◌∷◌, ◌++◌, length, Ok, Err, Result, sym, refl, ap, ◌∙◌, subst, inl, inr, arith}
use Rattle.std.specs.Prelude.{MatchResult}
use Rattle.std.specs.List.{AllByRecursion}
use Rattle.std.proofs.lemmas.List.{append-nil, append_assoc}
use Rattle.spelling.specs.declared.parts.Parts.{Parts}
use Rattle.spelling.specs.declared.fault.Fault.{Fault}
use Rattle.spelling.specs.Reading.{Reading}
use Rattle.spelling.specs.Commands.{letter_of}
use Rattle.spelling.specs.Turns.{start}
use Rattle.spelling.specs.Steps.{after_width}
use Rattle.spelling.specs.Items.{Item, written, Right, New, Once}
use Rattle.spelling.specs.Spelling.{Spells, FirstNo, told_at}
use Rattle.spelling.proofs.Refusing.{Start, Later, no_start, wide, no_later, goes, ends, starts, leads, start_refused, later_refused}
use Rattle.spelling.proofs.Items.{once_new, all_at, parts_same}
use Rattle.spelling.proofs.Following.{Kept, Follows, follows_width, follows_more, next_of, rest_long, front_of, front_long, item_read}
use Rattle.spelling.proofs.Running.{run, run_fails, run_ends, run_goes}
use Rattle.spelling.proofs.Ends.{width_read, kept_unused, done_spells, done_read}

-- What an answer tells.
abbrev pub Found : List ℕ → Result Parts Fault → Type 0
Found bytes r = MatchResult r (Spells bytes) (FirstNo bytes)

found_from : (k : ℕ) (bytes : List ℕ) (s : Reading) (n : ℕ) (items : List Item) (rest : List ℕ)
    → Follows bytes s n items rest → length bytes < s.at + k → Found bytes (run k bytes s)
found_from zero bytes s n items rest f h = absurd (omega (arith, rest_long bytes (front_of n items) rest s.at f.is (front_long n items s f.kept)))
found_from (suc k) bytes s n items rest f h = go (leads n items rest) (λ next js more g. found_from k bytes next n js more g)
  where
    go : Later n items rest
        → ((next : Reading) (js : List Item) (more : List ℕ) → Follows bytes next n js more → length bytes < next.at + k → Found bytes (run k bytes next))
        → Found bytes (run (suc k) bytes s)
    go (no_later why w) later = subst (Found bytes) (sym (run_fails k bytes s _ (later_refused bytes s n items rest f why w))) (inr (record {
      n = n;
      least = f.least;
      most = f.most;
      items = items;
      rest = rest;
      is = f.is;
      right = f.right;
      once = f.once;
      offset = ap (told_at why) f.kept.place;
      no = w;
    }))
    go (goes i more is right new) later =
        let g : Follows bytes s n items (letter_of i.part ∷ (i.operand ++ more)) = subst (Follows bytes s n items) is f in
        subst (Found bytes) (sym (run_goes k bytes s (next_of s i) (item_read bytes s n items i more g right new)))
        (later (next_of s i) (items ++ (i ∷ [])) more (follows_more bytes s n items i more g right new) (omega arith))
    go (ends is all) later =
        let g : Follows bytes s n items (90 ∷ []) = subst (Follows bytes s n items) is f in
        subst (Found bytes) (sym (run_ends k bytes s s.parts (done_read bytes s n items g all))) (done_spells bytes s n items g all)

pub found : (k : ℕ) (bytes : List ℕ) → length bytes < k → Found bytes (run k bytes start)
found zero bytes h = absurd (omega arith)
found (suc k) bytes h = go (starts bytes)
  where
    go : Start bytes → Found bytes (run (suc k) bytes start)
    go (no_start why w) = subst (Found bytes) (sym (run_fails k bytes start _ (start_refused bytes why w))) (inl (record { offset = refl; no = w }))
    go (wide n rest least most is) =
        subst (Found bytes) (sym (run_goes k bytes start (after_width n) (width_read bytes n rest least most is)))
        (found_from k bytes (after_width n) n [] rest (follows_width bytes n rest least most is) (omega arith))

-- What is spelt or refused is answered so.

module _ (bytes : List ℕ) (n : ℕ) (whole : List Item) (last : List ℕ) (right : AllByRecursion (Right n) whole) (once : Once whole) (r : Result Parts Fault)
    (end : (s : Reading) (k : ℕ) → Follows bytes s n whole last → run (suc k) bytes s ≡ r) where
  read_on : (todo done : List Item) (s : Reading) (k : ℕ) → done ++ todo ≡ whole → Follows bytes s n done (written todo ++ last)
      → length bytes < s.at + k → run k bytes s ≡ r
  read_on todo done s zero e f h = absurd (omega (arith, rest_long bytes (front_of n done) (written todo ++ last) s.at f.is (front_long n done s f.kept)))
  read_on [] done s (suc k) e f h =
      let d : done ≡ whole = sym (append-nil done) ∙ e in
      end s k (subst (λ x. Follows bytes s n x last) d f)
  read_on (i ∷ todo) done s (suc k) e f h =
      run_goes k bytes s (next_of s i) (item_read bytes s n done i more g r' new)
      ∙ read_on todo (done ++ (i ∷ [])) (next_of s i) k (append_assoc done (i ∷ []) todo ∙ e) (follows_more bytes s n done i more g r' new) (omega arith)
    where
      more : List ℕ
      more = written todo ++ last

      g : Follows bytes s n done (letter_of i.part ∷ (i.operand ++ more))
      g = subst (λ x. Follows bytes s n done (letter_of i.part ∷ x)) (append_assoc i.operand (written todo) last) f

      r' : Right n i
      r' = all_at (Right n) done i todo (subst (AllByRecursion (Right n)) (sym e) right)

      new : New i.part done
      new = once_new done i todo (subst Once (sym e) once)

  read_whole : 24 ≤ n → n ≤ 64 → bytes ≡ 87 ∷ (n ∷ (written whole ++ last)) → (k : ℕ) → length bytes < k → run k bytes start ≡ r
  read_whole least most is zero h = absurd (omega arith)
  read_whole least most is (suc k) h =
      run_goes k bytes start (after_width n) (width_read bytes n (written whole ++ last) least most is)
      ∙ read_on whole [] (after_width n) k refl (follows_width bytes n (written whole ++ last) least most is) (omega arith)

pub spells_accepted : (bytes : List ℕ) (p : Parts) → Spells bytes p → (k : ℕ) → length bytes < k → run k bytes start ≡ Ok p
spells_accepted bytes p sp =
    read_whole bytes p.width sp.items (90 ∷ []) sp.right sp.once (Ok p)
    (λ s k g. run_ends k bytes s s.parts (done_read bytes s p.width sp.items g sp.all) ∙ ap Ok (same s g.kept))
    sp.least sp.most sp.is
  where
    same : (s : Reading) → Kept p.width sp.items s → s.parts ≡ p
    same s kept = parts_same p.width s.parts p sp.items kept.wide refl sp.all kept.has sp.has kept.six sp.six
        (kept_unused p.width sp.items s sp.right kept) sp.unused

fault_at : (f : Fault) (at : ℕ) → f.offset ≡ at → ◌≡◌ {A = Result Parts Fault} (Err (record { reason = f.reason; offset = at })) (Err f)
fault_at f at e = ap (λ x. Err (record { reason = f.reason; offset = x })) (sym e)

pub fault_refused : (bytes : List ℕ) (f : Fault) → FirstNo bytes f → (k : ℕ) → length bytes < k → run k bytes start ≡ Err f
fault_refused bytes f (inl a) zero h = absurd (omega arith)
fault_refused bytes f (inl a) (suc k) h = run_fails k bytes start _ (start_refused bytes f.reason a.no) ∙ fault_at f 0 a.offset
fault_refused bytes f (inr a) k h =
    read_whole bytes a.n a.items a.rest a.right a.once (Err f)
    (λ s j g. run_fails j bytes s _ (later_refused bytes s a.n a.items a.rest g f.reason a.no)
    ∙ fault_at f (told_at f.reason s.at) (a.offset ∙ ap (told_at f.reason) (sym g.kept.place)))
    a.least a.most a.is k h
