-- The rule of a narrowed coding: for each number up to the new top it is a fall, so it is the first number
-- at most the new top.
use Rattle.std.proofs.Common.{◌≡◌, ℕ, zero, ◌≤◌, min, refl, arith}
use Rattle.meanings.specs.Meaning.{Meaning, Lawful}
use Rattle.std.specs.Fn.{iterate}
use Rattle.meanings.specs.Layers.{narrowed, turned, IsNarrowed}
use Rattle.meanings.proofs.Orbits.{comes_home}
use Rattle.meanings.proofs.Falls.{Falls, Fall, fall, falls_small, walk_falls, falls_first, falls_back}

pub turned_lawful : (m : Meaning) → Lawful m → Lawful (turned m)
turned_lawful m l = record { within = l.lands; lands = l.within; undoes = l.redoes; redoes = l.undoes }

-- The way of x to its code, in at most `most` applications after the first.
pub record Way (t : ℕ) (m : Meaning) (x : ℕ) : Type 0 where
  pub count : ℕ
  pub few : count ≤ m.top
  pub falls : Falls count (min t m.top) m.rule (m.rule x) ((narrowed t m).rule x)

module _ (t : ℕ) (m : Meaning) (l : Lawful m) where
  pub way : (x : ℕ) → x ≤ min t m.top → Way t m x
  way x h = go (comes_home m l x (omega arith))
    where
      go : (k : ℕ) × (k ≤ m.top) × (iterate m.rule k (m.rule x) ≡ x) → Way t m x
      go c =
          let f : Fall c.0 (min t m.top) m.rule (m.rule x) = fall c.0 (min t m.top) m.rule (m.rule x) (rw c.2 h) in
          let few : f.count ≤ m.top = omega (arith, f.few, c.1) in
          record { count = f.count; few = few; falls = rw (walk_falls f.count m.top (min t m.top) m.rule (m.rule x) f.to f.falls few) f.falls }

  pub narrowed_within : (x : ℕ) → x ≤ min t m.top → (narrowed t m).rule x ≤ min t m.top
  narrowed_within x h = let w = way x h in falls_small w.count (min t m.top) m.rule (m.rule x) ((narrowed t m).rule x) w.falls

  pub narrowed_undoes : (x : ℕ) → x ≤ min t m.top → (narrowed t m).back ((narrowed t m).rule x) ≡ x
  narrowed_undoes x h =
      let u = min t m.top in
      let inside : x ≤ m.top = omega arith in
      let w = way x h in
      let e : m.back (m.rule x) ≡ x = l.undoes x inside in
      let home : Falls zero u m.back (m.back (m.rule x)) x = (rw e h, e) in
      let back = falls_back m l w.count zero u (m.rule x) x ((narrowed t m).rule x) (l.within x inside) w.falls home in
      walk_falls _ m.top u m.back (m.back ((narrowed t m).rule x)) x back (omega (arith, w.few))

  pub narrowed_is : IsNarrowed t m (narrowed t m)
  narrowed_is = record { top = refl; rule = λ x h. let w = way x h in falls_first w.count (min t m.top) m.rule x ((narrowed t m).rule x) w.falls }

pub narrowed_lawful : (t : ℕ) (m : Meaning) → Lawful m → Lawful (narrowed t m)
narrowed_lawful t m l =
    record {
      within = narrowed_within t m l;
      lands = narrowed_within t (turned m) (turned_lawful m l);
      undoes = narrowed_undoes t m l;
      redoes = narrowed_undoes t (turned m) (turned_lawful m l);
    }
