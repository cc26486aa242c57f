use Rattle.clib.proofs.Coding.{still_within, is_ok, its_code, one_more}
use Rattle.clib.proofs.numbers.code_each.Goals as goal

pub unwrap-requires : goal.unwrap-requires
unwrap-requires g c =
    let m = g.C.Coding.means c.args.coding.now in
    is_ok m _ _ (still_within m.rule c.args.numbers.now c.loop-x.numbers c.loop-x.x-index m.top 0 c.loop-x-test.true c.loop-x.invariant c.requires.within) c.code.ensures

pub loop-x-preserved : goal.loop-x-preserved
loop-x-preserved g c =
    let m = g.C.Coding.means c.args.coding.now in
    one_more m.rule c.args.numbers.now c.loop-x.numbers c.loop-x.x-index 0 _ c.loop-x-test.true c.loop-x.invariant (its_code m _ _ _ c.code.ensures c.unwrap.ensures)
