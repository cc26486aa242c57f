use Rattle.std.proofs.Common.{◌≡◌, sym, ap, ◌∙◌, rules, min}
use Rattle.meanings.specs.Layers.{narrowed}
use Rattle.meanings.proofs.Laws.{laws}
use Rattle.laws.specs.Shown.{sides}
use Rattle.codings.proofs.Answering.{same_answers}
use Rattle.laws.proofs.narrowed_twice.Goals as goal

pub returns : goal.returns
returns g c =
    let m = g.A.Coding.means c.args.a.now in
    let t = c.args.t in
    let u = c.args.u in
    let same = (laws m m m (g.A.Coding.lawful c.args.a.now) t u).narrowed_twice in
    let shown : c.asked.result ≡ sides (narrowed u (narrowed t m)) (narrowed (min t u) m) c.args.x = search rules in
    record {
      asked = shown;
      equal = ap (λ s. s.left) shown ∙ same_answers _ _ same c.args.x ∙ sym (ap (λ s. s.right) shown);
    }
