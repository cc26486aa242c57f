-- What a book that keeps a release says of each call: the call's answer is the book's, and the book after the
-- call keeps what is left.
use Rattle.std.proofs.Common.{◌≡◌, ℕ, zero, suc, ◌+◌, ◌-◌, ◌<◌, ◌≤◌, min, Bool, true, false, ◌&&◌, cond, eqb, ltb, leb, List, [], ◌∷◌, ◌++◌, map, length, get_or, take, set, replicate, Ok, Err, Result, sym, refl, ap, ◌∙◌, subst, arith}
use Rattle.meanings.specs.Meaning.{Meaning, Lawful}
use Rattle.book.specs.declared.entry.Entry.{Entry}
use Rattle.book.specs.declared.row.Row.{Row}
use Rattle.book.specs.Refusals.{ask}
use Rattle.book.proofs.Asking.{ask_yes, ask_same, ask_ok}
use Rattle.book.specs.Rows.{ColumnMeanings, Setup, coding_of, within, codes, marked, blank}
use Rattle.book.specs.Raw.{record_at, stands, count_marks, put_answer, put_memory, put_taken, withdraw_answer, withdraw_memory, show_answer, turn_back_answer, tally_answer, entry_coding}
use Rattle.book.specs.Book.{BookRow, no_row, row_at, row_stands, withdrawn, entry_number, count_standing, book_put, after_put, book_withdraw, after_withdraw, entry_code, book_show, book_turn_back, book_tally, record_of, memory_of, Keeps}
use Rattle.std.proofs.lemmas.List.{get_or_append_left, get_or-map, set-append_left, set-append_right, take_at, map_push, map-set, length-append, length-map, length-replicate, length_push, length-set, append_assoc}
use Rattle.std.proofs.lemmas.List.Sums.{sum_by-cons}
use Rattle.std.proofs.ByRecursion.{All-get_or, All-push, All-set}
use Rattle.std.proofs.lemmas.Bool.{leb-true, ltb-true, eqb-true, eq-eqb, and_parts}
use Rattle.meanings.proofs.Lawful.{clear_lawful}
use Rattle.book.specs.declared.refusal.Refusal.{Refusal}
use Rattle.book.specs.declared.refusal.Refusal.TheVariants.{AboveTop, NotStanding, NoSuchColumn}
use Rattle.book.specs.declared.role.Role.{Role}
use Rattle.book.specs.declared.role.Role.TheVariants.{Yarn, Hands, Clear}

-- two tests joined by "and", of which the second parts agree where the first is true
pub and_same : (t x y : Bool) → (t ≡ true → x ≡ y) → (t && x) ≡ (t && y)
and_same true x y h = h refl
and_same false x y h = refl

-- the book's row memory is as long as it should be
length_memory : (s : Setup) (b : List BookRow) → length b ≤ s.records → length (memory_of s b) ≡ s.records
length_memory s b h = rw (length-append (map (record_of s) b) (replicate (s.records - length b) blank), length-map b (record_of s), length-replicate (s.records - length b) blank) (omega arith)

-- the record of a row that was put
memory_at : (s : Setup) (b : List BookRow) (j : ℕ) → j < length b → get_or (memory_of s b) j blank ≡ record_of s (get_or b j no_row)
memory_at s b j h =
    let l = length-map b (record_of s) in
    get_or_append_left (map (record_of s) b) (replicate (s.records - length b) blank) blank j (omega arith) ∙ get_or-map (record_of s) b j no_row blank h

-- a record has the mark where its row stands
record_standing : (s : Setup) (ns : List ℕ) (t : Bool) → (record_of s (record { numbers = ns; standing = t })).standing ≡ t
record_standing s ns true = refl
record_standing s ns false = refl

-- a row stands by the book's row memory where it stands in the book
stands_same : (s : Setup) (b : List BookRow) (i : ℕ) → stands (length b) (memory_of s b) i ≡ row_stands b i
stands_same s b i =
    and_same (ltb 0 i) _ _ (λ low. and_same (leb i (length b)) _ _ (λ high.
    let l = ltb-true 0 i low in
    let h = leb-true i (length b) high in
    ap (λ r. r.standing) (memory_at s b (i - 1) (omega arith)) ∙ record_standing s (row_at b i).numbers (row_at b i).standing))

-- as many marks as rows that stand
count_map : (s : Setup) (b : List BookRow) → count_marks (map (record_of s) b) ≡ count_standing b
count_map s [] = refl
count_map s (r ∷ rs) =
    sum_by-cons (λ row. cond row.standing 1 0) (record_of s r) (map (record_of s) rs)
    ∙ ap (λ t. cond t 1 0 + count_marks (map (record_of s) rs)) (record_standing s r.numbers r.standing)
    ∙ ap (λ n. cond r.standing 1 0 + n) (count_map s rs)
    ∙ sym (sum_by-cons (λ row. cond row.standing 1 0) r rs)

-- the marks among the places taken
count_same : (s : Setup) (b : List BookRow) → count_marks (take (length b) (memory_of s b)) ≡ count_standing b
count_same s b = ap count_marks (take_at (map (record_of s) b) (replicate (s.records - length b) blank) (length b) (length-map b (record_of s))) ∙ count_map s b

-- the zero records but the first, once one more is written
replicate_set : (n m i : ℕ) (x y : Row) → n ≡ suc m → i ≡ 0 → set (replicate n x) i y ≡ y ∷ replicate m x
replicate_set n m i x y e z = rw (e, z)

-- a put's record, written at the next place
memory_put : (s : Setup) (b : List BookRow) (xs : List ℕ) → length b < s.records
    → set (memory_of s b) (length b) (marked (codes s.codings s.roles xs)) ≡ memory_of s (b ++ record { numbers = xs; standing = true } ∷ [])
memory_put s b xs h =
    let row : BookRow = record { numbers = xs; standing = true } in
    let front = map (record_of s) b in
    let new : Row = marked (codes s.codings s.roles xs) in
    let left : ℕ = s.records - length (b ++ row ∷ []) in
    let l = length_push b row in
    set-append_right front (replicate (s.records - length b) blank) (length b) (length b) new (length-map b (record_of s)) (omega arith)
    ∙ ap (λ zs. front ++ zs) (replicate_set (s.records - length b) left (length b - length b) blank new (omega arith) (omega arith))
    ∙ sym (append_assoc front (new ∷ []) (replicate left blank))
    ∙ ap (λ zs. zs ++ replicate left blank) (sym (map_push (record_of s) b row))

-- a withdrawn row's record, zeroed
memory_withdraw : (s : Setup) (b : List BookRow) (j : ℕ) (ns : List ℕ) → j < length b
    → set (memory_of s b) j blank ≡ memory_of s (set b j (record { numbers = ns; standing = false }))
memory_withdraw s b j ns h =
    let row : BookRow = record { numbers = ns; standing = false } in
    let l = length-map b (record_of s) in
    set-append_left (map (record_of s) b) (replicate (s.records - length b) blank) j blank (omega arith)
    ∙ ap (λ zs. zs ++ replicate (s.records - length b) blank) (sym (map-set (record_of s) b j row))
    ∙ ap (λ n. map (record_of s) (set b j row) ++ replicate (s.records - n) blank) (sym (length-set b j row))

-- each number of a row is within the top of its column's coding
pub within_at : (m : ColumnMeanings) (rs : List Role) (xs : List ℕ) (c : ℕ) → c < length rs → length xs ≡ length rs → within m rs xs ≡ true → get_or xs c 0 ≤ (coding_of m (get_or rs c Clear)).top
within_at m [] xs c h l w = absurd (omega arith)
within_at m (r ∷ rs) [] c h l w = absurd (omega arith)
within_at m (r ∷ rs) (x ∷ xs) zero h l w = leb-true x (coding_of m r).top (and_parts (leb x (coding_of m r).top) (within m rs xs) w).0
within_at m (r ∷ rs) (x ∷ xs) (suc c) h l w = within_at m rs xs c (omega arith) (omega arith) (and_parts (leb x (coding_of m r).top) (within m rs xs) w).1

-- each code of a row is its column's code of its number
codes_at : (m : ColumnMeanings) (rs : List Role) (xs : List ℕ) (c : ℕ) → c < length rs → length xs ≡ length rs → get_or (codes m rs xs) c 0 ≡ (coding_of m (get_or rs c Clear)).rule (get_or xs c 0)
codes_at m [] xs c h l = absurd (omega arith)
codes_at m (r ∷ rs) [] c h l = absurd (omega arith)
codes_at m (r ∷ rs) (x ∷ xs) zero h l = refl
codes_at m (r ∷ rs) (x ∷ xs) (suc c) h l = codes_at m rs xs c (omega arith) (omega arith)

-- as many codes as there are columns with a number
pub length_codes : (m : ColumnMeanings) (rs : List Role) (xs : List ℕ) → length (codes m rs xs) ≡ min (length rs) (length xs)
length_codes m [] xs = omega arith
length_codes m (r ∷ rs) [] = omega arith
length_codes m (r ∷ rs) (x ∷ xs) = omega (arith, length_codes m rs xs)

-- where both codings are lawful, each column's is
pub coding_lawful : (m : ColumnMeanings) → Lawful m.yarn → Lawful m.hands → (r : Role) → Lawful (coding_of m r)
coding_lawful m ly lh Yarn = ly
coding_lawful m ly lh Hands = lh
coding_lawful m ly lh Clear = clear_lawful _

-- the record of a standing row
record_yes : (s : Setup) (ns : List ℕ) (t : Bool) → t ≡ true → record_of s (record { numbers = ns; standing = t }) ≡ marked (codes s.codings s.roles ns)
record_yes s ns true h = refl
record_yes s ns false h = let z : ◌≡◌ {A = ℕ} 0 1 = cc in absurd (omega arith)

-- a row that stands was put, and its book row has the mark
pub row_stands_parts : (b : List BookRow) (i : ℕ) → row_stands b i ≡ true → (i - 1 < length b) × ((row_at b i).standing ≡ true)
row_stands_parts b i h =
    let p = and_parts (ltb 0 i) (leb i (length b) && (row_at b i).standing) h in
    let q = and_parts (leb i (length b)) (row_at b i).standing p.1 in
    let low = ltb-true 0 i p.0 in
    let high = leb-true i (length b) q.0 in
    (omega arith, q.1)

-- what each row of a book that keeps a release satisfies
abbrev pub Fit : Setup → BookRow → Type 0
Fit s r = (length r.numbers ≡ length s.roles) × (within s.codings s.roles r.numbers ≡ true)

pub fit_at : (s : Setup) (taken : ℕ) (memory : List Row) (b : List BookRow) → Keeps s taken memory b → (i : ℕ) → row_stands b i ≡ true → Fit s (row_at b i)
fit_at s taken memory b k i st = All-get_or (Fit s) b (i - 1) no_row (row_stands_parts b i st).0 k.rows

-- what holds of the book's own places and row memory holds of those of the release that it keeps
kept_at : (s : Setup) (taken : ℕ) (memory : List Row) (b : List BookRow) → Keeps s taken memory b → (P : ℕ → List Row → Type 0) → P (length b) (memory_of s b) → P taken memory
kept_at s taken memory b k P p = subst (λ t. P t memory) (sym k.places) (subst (λ m. P (length b) m) (sym k.held) p)

-- what one row record has at a column of a standing row
entry_at : (s : Setup) (b : List BookRow) (e : Entry) → length (row_at b e.row).numbers ≡ length s.roles → row_stands b e.row ≡ true → e.column < length s.roles
    → get_or (record_at (memory_of s b) e.row).numbers e.column 0 ≡ entry_code s b e
entry_at s b e l st h =
    let p = row_stands_parts b e.row st in
    let ns = (row_at b e.row).numbers in
    let n = length_codes s.codings s.roles ns in
    ap (λ r. get_or r.numbers e.column 0) (memory_at s b (e.row - 1) p.0 ∙ record_yes s ns (row_at b e.row).standing p.1)
    ∙ get_or_append_left (codes s.codings s.roles ns) (replicate (8 - length (codes s.codings s.roles ns)) 0) 0 e.column (omega arith)
    ∙ codes_at s.codings s.roles ns e.column h l

-- the book with one more row keeps the release with one more record
keeps_put : (s : Setup) (b : List BookRow) (xs : List ℕ) → Keeps s (length b) (memory_of s b) b → (n : ℕ) → book_put s b xs ≡ Ok n
    → Keeps s n (set (memory_of s b) (length b) (marked (codes s.codings s.roles xs))) (b ++ record { numbers = xs; standing = true } ∷ [])
keeps_put s b xs k n e =
    let row : BookRow = record { numbers = xs; standing = true } in
    let p = ask_ok (eqb (length xs) (length s.roles)) _ _ n e in
    let q = ask_ok (ltb (length b) s.records) _ _ n p.1 in
    let r = ask_ok (within s.codings s.roles xs) _ _ n q.1 in
    let free = ltb-true (length b) s.records q.0 in
    let l = length_push b row in
    let m : length b + 1 ≡ n = cc r.1 in
    record {
      places = omega arith;
      fits = omega arith;
      narrow = k.narrow;
      rows = All-push (Fit s) b row k.rows (eqb-true (length xs) (length s.roles) p.0, r.0);
      held = memory_put s b xs free;
    }

-- what is left of a put, by its answer
put_ways : (s : Setup) (taken : ℕ) (memory new : List Row) (b more : List BookRow) (a : Result ℕ Refusal) → ((n : ℕ) → a ≡ Ok n → Keeps s n new more) → Keeps s taken memory b
    → Keeps s (elim a [ Ok n ↦ n | Err e ↦ taken ]) (elim a [ Ok n ↦ new | Err e ↦ memory ]) (elim a [ Ok n ↦ more | Err e ↦ b ])
put_ways s taken memory new b more (Ok n) f k = f n refl
put_ways s taken memory new b more (Err e) f k = k

-- the book with a row withdrawn keeps the release with that row's record zeroed
keeps_withdraw : (s : Setup) (b : List BookRow) (i : ℕ) → Keeps s (length b) (memory_of s b) b → (n : Unit {0}) → book_withdraw s b i ≡ Ok n
    → Keeps s (length b) (set (memory_of s b) (i - 1) blank) (set b (i - 1) (withdrawn (row_at b i)))
keeps_withdraw s b i k n e =
    let p = ask_ok (row_stands b i) _ _ n e in
    let q = row_stands_parts b i p.0 in
    let l = length-set b (i - 1) (withdrawn (row_at b i)) in
    record {
      places = sym l;
      fits = omega (arith, k.fits);
      narrow = k.narrow;
      rows = All-set (Fit s) b (i - 1) (withdrawn (row_at b i)) (All-get_or (Fit s) b (i - 1) no_row q.0 k.rows) k.rows;
      held = memory_withdraw s b (i - 1) (row_at b i).numbers q.0;
    }

-- what is left of a withdrawal, by its answer
withdraw_ways : (s : Setup) (taken : ℕ) (memory new : List Row) (b less : List BookRow) (a : Result (Unit {0}) Refusal) → ((n : Unit {0}) → a ≡ Ok n → Keeps s taken new less) → Keeps s taken memory b
    → Keeps s taken (elim a [ Ok n ↦ new | Err e ↦ memory ]) (elim a [ Ok n ↦ less | Err e ↦ b ])
withdraw_ways s taken memory new b less (Ok n) f k = f n refl
withdraw_ways s taken memory new b less (Err e) f k = k

-- the book keeps its own places and row memory
keeps_own : (s : Setup) (taken : ℕ) (memory : List Row) (b : List BookRow) → Keeps s taken memory b → Keeps s (length b) (memory_of s b) b
keeps_own s taken memory b k = record { places = refl; fits = k.fits; narrow = k.narrow; rows = k.rows; held = refl }

-- the row memory of a book that fits has the length that is asked for
length_asked : (s : Setup) (b : List BookRow) → length b ≤ s.records → eqb (length (memory_of s b)) s.records ≡ true
length_asked s b h = eq-eqb (length (memory_of s b)) s.records (length_memory s b h)

-- an open release with nothing put
pub opened : (s : Setup) → length s.roles ≤ 8 → Keeps s 0 (replicate s.records blank) []
opened s narrow = record { places = refl; fits = omega arith; narrow = narrow; rows = tt; held = ap (λ n. replicate n blank) (let e : s.records ≡ s.records - 0 = omega arith in e) }

module _ (s : Setup) (taken : ℕ) (memory : List Row) (b : List BookRow) (k : Keeps s taken memory b) where
  pub put_kept : (xs : List ℕ) → (put_answer s taken memory xs ≡ book_put s b xs) × Keeps s (put_taken s taken memory xs) (put_memory s taken memory xs) (after_put s b xs)
  put_kept xs =
      kept_at s taken memory b k
      (λ t m. (put_answer s t m xs ≡ book_put s b xs) × Keeps s (put_taken s t m xs) (put_memory s t m xs) (after_put s b xs)) (
        same,
        subst (λ a. Keeps s (elim a [ Ok n ↦ n | Err e ↦ length b ]) (elim a [ Ok n ↦ new | Err e ↦ memory_of s b ]) (after_put s b xs)) (sym same)
            (put_ways s (length b) (memory_of s b) new b _ (book_put s b xs) (keeps_put s b xs own) own),
      )
    where
      own : Keeps s (length b) (memory_of s b) b
      own = keeps_own s taken memory b k

      new : List Row
      new = set (memory_of s b) (length b) (marked (codes s.codings s.roles xs))

      same : put_answer s (length b) (memory_of s b) xs ≡ book_put s b xs
      same = ask_yes (eqb (length (memory_of s b)) s.records) _ _ (length_asked s b k.fits)

  pub withdraw_kept : (i : ℕ) → (withdraw_answer s taken memory i ≡ book_withdraw s b i) × Keeps s taken (withdraw_memory s taken memory i) (after_withdraw s b i)
  withdraw_kept i =
      kept_at s taken memory b k
      (λ t m. (withdraw_answer s t m i ≡ book_withdraw s b i) × Keeps s t (withdraw_memory s t m i) (after_withdraw s b i)) (
        same,
        subst (λ a. Keeps s (length b) (elim a [ Ok n ↦ new | Err e ↦ memory_of s b ]) (after_withdraw s b i)) (sym same)
            (withdraw_ways s (length b) (memory_of s b) new b _ (book_withdraw s b i) (keeps_withdraw s b i own) own),
      )
    where
      own : Keeps s (length b) (memory_of s b) b
      own = keeps_own s taken memory b k

      new : List Row
      new = set (memory_of s b) (i - 1) blank

      same : withdraw_answer s (length b) (memory_of s b) i ≡ book_withdraw s b i
      same =
          ask_yes (eqb (length (memory_of s b)) s.records) _ _ (length_asked s b k.fits)
          ∙ ap (λ t. ask t NotStanding (Ok tt)) (stands_same s b i)

  pub show_kept : (e : Entry) → show_answer s taken memory e ≡ book_show s b e
  show_kept e =
      kept_at s taken memory b k (λ t m. show_answer s t m e ≡ book_show s b e)
      (ask_yes (eqb (length (memory_of s b)) s.records) _ _ (length_asked s b k.fits)
      ∙ ap (λ t. ask t NotStanding (ask (ltb e.column (length s.roles)) NoSuchColumn (Ok code))) (stands_same s b e.row)
      ∙ ask_same (row_stands b e.row) NotStanding _ _ (λ st. ask_same (ltb e.column (length s.roles)) NoSuchColumn _ _ (λ lt.
      let fit = fit_at s taken memory b k e.row st in
      ap (λ n. Ok n) (entry_at s b e fit.0 st (ltb-true e.column (length s.roles) lt)))))
    where
      code : ℕ
      code = get_or (record_at (memory_of s b) e.row).numbers e.column 0

  pub turn_back_kept : ((r : Role) → Lawful (coding_of s.codings r)) → (e : Entry) → turn_back_answer s taken memory e ≡ book_turn_back s b e
  turn_back_kept lawful e =
      kept_at s taken memory b k (λ t m. turn_back_answer s t m e ≡ book_turn_back s b e)
      (ask_yes (eqb (length (memory_of s b)) s.records) _ _ (length_asked s b k.fits)
      ∙ ap (λ t. ask t NotStanding (ask (ltb e.column (length s.roles)) NoSuchColumn (turned code))) (stands_same s b e.row)
      ∙ ask_same (row_stands b e.row) NotStanding _ _ (λ st. ask_same (ltb e.column (length s.roles)) NoSuchColumn _ _ (λ lt.
      let fit = fit_at s taken memory b k e.row st in
      let h = ltb-true e.column (length s.roles) lt in
      let low = within_at s.codings s.roles (row_at b e.row).numbers e.column h fit.0 fit.1 in
      ap turned (entry_at s b e fit.0 st h)
      ∙ ap (λ n. ask (leb (entry_code s b e) coding.top) AboveTop (Ok n)) ((lawful (get_or s.roles e.column Clear)).undoes (entry_number b e) low))))
    where
      code : ℕ
      code = get_or (record_at (memory_of s b) e.row).numbers e.column 0

      coding : Meaning
      coding = entry_coding s e

      turned : ℕ → Result ℕ Refusal
      turned n = ask (leb n coding.top) AboveTop (Ok (coding.back n))

  pub tally_kept : tally_answer s taken memory ≡ book_tally s b
  tally_kept =
      kept_at s taken memory b k (λ t m. tally_answer s t m ≡ book_tally s b)
      (ask_yes (eqb (length (memory_of s b)) s.records) _ _ (length_asked s b k.fits)
      ∙ ap (λ n. Ok (length b, n)) (count_same s b))
