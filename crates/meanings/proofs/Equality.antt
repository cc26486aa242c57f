-- `Same` is an equivalence that every layer keeps; equal lawful codings have equal ways back.
use Rattle.std.proofs.Common.{◌≡◌, ℕ, ◌<◌, ◌≤◌, min, ◌⊎◌, sym, refl, ap, ◌∙◌, inl, inr, arith}
use Rattle.std.proofs.lemmas.Bool.{cases_lt}
use Rattle.meanings.specs.Meaning.{Meaning, Lawful, Same, SameBack}
use Rattle.meanings.specs.Layers.{stretched, chained, narrowed}
use Rattle.meanings.specs.Laws.{Equality}
use Rattle.meanings.proofs.Orbits.{one_to_one}
use Rattle.meanings.proofs.Falls.{falls_like, falls_meet}
use Rattle.meanings.proofs.Narrowing.{way}
use Rattle.meanings.proofs.Lawful.{stretched_in, stretched_out}

stretched_same : (a b : Meaning) → Same a b → (x : ℕ) → stretched a x ≡ stretched b x
stretched_same a b s x = go (cases_lt a.top x)
  where
    go : (a.top < x) ⊎ (x ≤ a.top) → stretched a x ≡ stretched b x
    go (inl out) = stretched_out a x out ∙ sym (stretched_out b x (rw s.tops at out))
    go (inr ins) = stretched_in a x ins ∙ s.rules x ins ∙ sym (stretched_in b x (rw s.tops at ins))

chained_same : (a b c d : Meaning) → Same a c → Same b d → Same (chained a b) (chained c d)
chained_same a b c d p q =
    record {
      tops = rw (p.tops, q.tops);
      rules = λ x h. ap (stretched b) (stretched_same a c p x) ∙ stretched_same b d q (stretched c x);
    }

same_backs : (a b : Meaning) → Lawful a → Lawful b → Same a b → SameBack a b
same_backs a b la lb s = record { backs = λ y h. back y h (rw s.tops at h) }
  where
    back : (y : ℕ) → y ≤ a.top → y ≤ b.top → a.back y ≡ b.back y
    back y ha hb =
        let lands : b.back y ≤ a.top = rw s.tops (lb.lands y hb) in
        one_to_one a la (a.back y) (b.back y) (la.lands y ha) lands (la.redoes y ha ∙ sym (lb.redoes y hb) ∙ sym (s.rules (b.back y) lands))

narrowed_same : (t : ℕ) (a b : Meaning) → Lawful a → Lawful b → Same a b → Same (narrowed t a) (narrowed t b)
narrowed_same t a b la lb s = record { tops = rw s.tops; rules = rule }
  where
    rule : (x : ℕ) → x ≤ min t a.top → (narrowed t a).rule x ≡ (narrowed t b).rule x
    rule x h =
        let w = way t a la x h in
        let inside : x ≤ a.top = omega arith in
        let alike = falls_like w.count (min t a.top) a.top a.rule b.rule (a.rule x) ((narrowed t a).rule x) la.within s.rules (la.within x inside) w.falls in
        let there = way t b lb x (rw s.tops at h) in
        falls_meet w.count there.count (min t a.top) (min t b.top) b.rule (a.rule x) (b.rule x) _ _ (ap (min t) s.tops) (s.rules x inside) alike there.falls

pub equality : Equality
equality =
    record {
      reflexive = λ a. record { tops = refl; rules = λ x h. refl };
      symmetric = λ a b s. record { tops = sym s.tops; rules = λ x h. sym (s.rules x (rw s.tops h)) };
      transitive = λ a b c s r. record { tops = s.tops ∙ r.tops; rules = λ x h. s.rules x h ∙ r.rules x (rw s.tops at h) };
      chain = chained_same;
      turn = λ a b la lb s. record { tops = s.tops; rules = (same_backs a b la lb s).backs };
      narrow = narrowed_same;
      backs = same_backs;
    }
