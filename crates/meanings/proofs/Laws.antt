-- The five laws. Turned twice, the turned chain and the turned narrowed coding hold by the definitions,
-- since a meaning carries its way back; that this way back undoes the rule is what `Lawful` says of each.
use Rattle.std.proofs.Common.{◌≡◌, ℕ, zero, suc, ◌<◌, ◌≤◌, min, max, ◌⊎◌, sym, refl, ap, ◌∙◌, inl, inr, arith}
use Rattle.std.proofs.lemmas.Bool.{cases_lt}
use Rattle.meanings.specs.Meaning.{Meaning, Lawful, Same}
use Rattle.meanings.specs.Layers.{stretched, chained, narrowed}
use Rattle.meanings.specs.Laws.{Laws}
use Rattle.meanings.proofs.Falls.{Falls, falls_meet, falls_lower, falls_on}
use Rattle.meanings.proofs.Narrowing.{way, narrowed_lawful, narrowed_within}
use Rattle.meanings.proofs.Lawful.{stretched_in, stretched_out}

-- a chain stretched over all numbers is its parts stretched, one after the other
stretched_chain : (a b : Meaning) (x : ℕ) → stretched (chained a b) x ≡ stretched b (stretched a x)
stretched_chain a b x = go (cases_lt (max a.top b.top) x)
  where
    go : (max a.top b.top < x) ⊎ (x ≤ max a.top b.top) → stretched (chained a b) x ≡ stretched b (stretched a x)
    go (inl out) =
        let oa : a.top < x = omega arith in
        let ob : b.top < x = omega arith in
        stretched_out (chained a b) x out ∙ sym (ap (stretched b) (stretched_out a x oa) ∙ stretched_out b x ob)
    go (inr ins) = stretched_in (chained a b) x ins

regrouped : (a b c : Meaning) → Same (chained a (chained b c)) (chained (chained a b) c)
regrouped a b c =
    record {
      tops = omega arith;
      rules = λ x h. stretched_chain b c (stretched a x) ∙ ap (stretched c) (sym (stretched_chain a b x));
    }

-- A fall under the narrowed rule is a fall under the rule below.
falls_below : (t : ℕ) (a : Meaning) → Lawful a → (k j u w v z : ℕ) → u ≤ min t a.top
    → Falls k (min t a.top) a.rule w v → v ≤ min t a.top → Falls j u (narrowed t a).rule v z → (n : ℕ) × Falls n u a.rule w z
falls_below t a l k zero u w v z le first small rest =
    (k, rw (sym rest.1) (falls_lower k (min t a.top) u a.rule w v le first rest.0))
falls_below t a l k (suc j) u w v z le first small rest =
    let next = way t a l v small in
    let on = falls_below t a l next.count j u (a.rule v) ((narrowed t a).rule v) z le next.falls (narrowed_within t a l v small) rest.1 in
    falls_on k on.0 (min t a.top) u a.rule w v z le first rest.0 on.1

narrowed_twice : (a : Meaning) → Lawful a → (t u : ℕ) → Same (narrowed u (narrowed t a)) (narrowed (min t u) a)
narrowed_twice a l t u = record { tops = tops; rules = rule }
  where
    tops : min u (min t a.top) ≡ min (min t u) a.top
    tops = omega arith

    rule : (x : ℕ) → x ≤ min u (min t a.top) → (narrowed u (narrowed t a)).rule x ≡ (narrowed (min t u) a).rule x
    rule x h =
        let hx : x ≤ min t a.top = omega arith in
        let ht : x ≤ min (min t u) a.top = omega arith in
        let inner = way t a l x hx in
        let outer = way u (narrowed t a) (narrowed_lawful t a l) x h in
        let below = falls_below t a l inner.count outer.count (min u (min t a.top)) (a.rule x) ((narrowed t a).rule x) _ (omega arith) inner.falls (narrowed_within t a l x hx) outer.falls in
        let direct = way (min t u) a l x ht in
        falls_meet below.0 direct.count (min u (min t a.top)) (min (min t u) a.top) a.rule (a.rule x) (a.rule x) _ _ tops refl below.1 direct.falls

pub laws : (a b c : Meaning) → Lawful a → (t u : ℕ) → Laws a b c t u
laws a b c l t u =
    record {
      regrouped = regrouped a b c;
      turned_twice = record { tops = refl; rules = λ x h. refl };
      turned_chain = record { tops = omega arith; rules = λ x h. refl };
      turned_narrowed = record { tops = refl; rules = λ x h. refl };
      narrowed_twice = narrowed_twice a l t u;
    }
