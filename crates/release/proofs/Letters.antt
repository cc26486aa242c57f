-- The loop that reads role letters: what it keeps, and what it comes to.
use Rattle.std.proofs.Common.{◌≡◌, ℕ, ◌+◌, ◌-◌, ◌<◌, ◌≤◌, List, [], ◌∷◌, ◌++◌, length, get_or, take, drop, set, replicate, Ok, Err, Result, sym, refl, ap, ◌∙◌, append_assoc, append-nil, arith, length-set}
use Rattle.std.proofs.lemmas.List.{drop_more, take_more_set, drop_all}
use Rattle.std.proofs.lemmas.Bool.{lt-ltb, le-leb}
use Rattle.book.specs.declared.refusal.Refusal.{Refusal}
use Rattle.book.specs.declared.role.Role.{Role}
use Rattle.book.specs.declared.role.Role.TheVariants.{Clear}
use Rattle.book.specs.Roles.{role_read}
use Rattle.book.proofs.Padding.{filled_next}
use Rattle.release.specs.Opening.{in_front, roles_of, columns_of}

front_none : (a : Result (List Role) Refusal) → a ≡ in_front [] a
front_none (Ok rs) = refl
front_none (Err e) = refl

front_front : (rs ss : List Role) (a : Result (List Role) Refusal) → in_front rs (in_front ss a) ≡ in_front (rs ++ ss) a
front_front rs ss (Ok more) = ap Ok (sym (append_assoc rs ss more))
front_front rs ss (Err e) = refl

-- one letter read
roles_good : (l : ℕ) (ls : List ℕ) (r : Role) → Ok r ≡ role_read l → roles_of (l ∷ ls) ≡ in_front (r ∷ []) (roles_of ls)
roles_good l ls r e = ap {B = Result (List Role) Refusal} (λ a. elim a [ Ok q ↦ in_front (q ∷ []) (roles_of ls) | Err d ↦ Err d ]) (sym e)

roles_bad : (l : ℕ) (ls : List ℕ) (d : Refusal) → Err d ≡ role_read l → roles_of (l ∷ ls) ≡ Err d
roles_bad l ls d e = ap {B = Result (List Role) Refusal} (λ a. elim a [ Ok q ↦ in_front (q ∷ []) (roles_of ls) | Err f ↦ Err f ]) (sym e)

module _ (ls : List ℕ) where
  -- after j letters their roles stand first, and what is to come goes behind them
  pub record Read (j : ℕ) (rs : List Role) : Type 0 where
    pub eight : length rs ≡ 8
    pub clear : drop j rs ≡ replicate (8 - j) Clear
    pub comes : roles_of ls ≡ in_front (take j rs) (roles_of (drop j ls))

  pub read_none : Read 0 (replicate 8 Clear)
  read_none = record { eight = refl; clear = refl; comes = front_none (roles_of ls) }

  pub read_one : (j : ℕ) (rs : List Role) (r : Role) → j < length ls → length ls ≤ 8 → Read j rs → Ok r ≡ role_read (get_or ls j 0) → Read (j + 1) (set rs j r)
  read_one j rs r lt few k e =
      let room : j < length rs = omega (arith, k.eight) in
      record {
        eight = length-set rs j r ∙ k.eight;
        clear = filled_next Clear rs j r k.clear;
        comes = k.comes
            ∙ ap (λ zs. in_front (take j rs) (roles_of zs)) (drop_more ls j 0 lt)
            ∙ ap (in_front (take j rs)) (roles_good (get_or ls j 0) (drop (j + 1) ls) r e)
            ∙ front_front (take j rs) (r ∷ []) (roles_of (drop (j + 1) ls))
            ∙ ap (λ zs. in_front zs (roles_of (drop (j + 1) ls))) (sym (take_more_set rs j r room));
      }

  pub read_bad : (j : ℕ) (rs : List Role) (d : Refusal) → j < length ls → Read j rs → Err d ≡ role_read (get_or ls j 0) → roles_of ls ≡ Err d
  read_bad j rs d lt k e =
      k.comes
      ∙ ap (λ zs. in_front (take j rs) (roles_of zs)) (drop_more ls j 0 lt)
      ∙ ap (in_front (take j rs)) (roles_bad (get_or ls j 0) (drop (j + 1) ls) d e)

  pub read_all : (j : ℕ) (rs : List Role) → length ls ≤ j → Read j rs → roles_of ls ≡ Ok (take j rs)
  read_all j rs ge k =
      k.comes ∙ ap (λ zs. in_front (take j rs) (roles_of zs)) (drop_all j ls ge) ∙ ap Ok (append-nil (take j rs))

  -- 1 to 8 letters pass the first question
  pub few_columns : (length ls ≡ 0 → ⊥) → length ls ≤ 8 → columns_of ls ≡ roles_of ls
  few_columns some few =
      let one : 0 < length ls = omega arith in
      rw (columns_of, lt-ltb 0 (length ls) one, le-leb (length ls) 8 few)

  pub columns_good : (j : ℕ) (rs : List Role) → (length ls ≡ 0 → ⊥) → length ls ≤ 8 → length ls ≤ j → j ≤ length ls → Read j rs → columns_of ls ≡ Ok (take (length ls) rs)
  columns_good j rs some few ge le k =
      let same : j ≡ length ls = omega arith in
      few_columns some few ∙ read_all j rs ge k ∙ ap (λ n. Ok (take n rs)) same

  pub columns_bad : (j : ℕ) (rs : List Role) (d : Refusal) → (length ls ≡ 0 → ⊥) → length ls ≤ 8 → j < length ls → Read j rs → Err d ≡ role_read (get_or ls j 0) → columns_of ls ≡ Err d
  columns_bad j rs d some few lt k e = few_columns some few ∙ read_bad j rs d lt k e
