use Rattle.meanings.proofs.Piles.{every_pile, any_three}
use Rattle.laws.proofs.laws_at.Goals as goal

pub returns-clause-every_pile : goal.returns-clause-every_pile
returns-clause-every_pile g c = every_pile

pub returns-clause-any_three : goal.returns-clause-any_three
returns-clause-any_three g c =
    any_three _ _ _ (g.A.Coding.lawful c.args.a.now) (g.B.Coding.lawful c.args.b.now) c.args.t c.args.u
