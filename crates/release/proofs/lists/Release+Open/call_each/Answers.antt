use Rattle.std.proofs.Common.{◌≡◌, ◌++◌, map, refl, ap, ◌∙◌, arith}
use Rattle.book.proofs.Kept.{coding_lawful}
use Rattle.book.specs.Runs.{answers, after_all}
use Rattle.release.specs.Listed.{asked_of, state_of}
use Rattle.release.specs.Views.{meanings_of, setup_of, with_taken}
use Rattle.release.proofs.Promised.{list_done}
use Rattle.release.proofs.Running.{run_goes, run_ends}
use Rattle.release.proofs.lists.Release+Open.call_each.Goals as goal

pub loop-call-init : goal.loop-call-init
loop-call-init g c =
    let s = setup_of c.args.self.now.plain (meanings_of g.Y.Coding.means g.H.Coding.means c.args.codings.now) in
    let begin = state_of c.args.self.now.plain c.args.memory.now in
    record {
      underway = record { tells = ap (λ zs. zs ++ answers s begin (map asked_of c.args.calls.now)) c.requires.none; ends = refl {a = after_all s begin (map asked_of c.args.calls.now)} };
      release = refl;
      room = grind (arith, c.requires.none, c.requires.room);
    }

pub loop-call-preserved : goal.loop-call-preserved
loop-call-preserved g c =
    let made = c.call.ensures in
    let pushed = c.push_reserved.ensures in
    let m = meanings_of g.Y.Coding.means g.H.Coding.means c.args.codings.now in
    let same : setup_of c.loop-call.self.plain m ≡ setup_of c.args.self.now.plain m = ap (λ p. setup_of p m) c.loop-call.invariant.release in
    record {
      underway = run_goes _ _ c.args.calls.now _ (state_of c.loop-call.self.plain c.loop-call.memory) (state_of c.call.new.self.plain c.call.new.memory) c.loop-call.told.items c.push_reserved.new.self.items c.call.result _ (setup_of c.loop-call.self.plain m) same c.loop-call-test.true made.answered made.left pushed.items c.loop-call.invariant.underway;
      release = made.release ∙ ap (λ p. with_taken p c.call.new.self.plain.taken) c.loop-call.invariant.release;
      room = omega (arith, pushed.len, pushed.capacity, c.loop-call.invariant.room);
    }

pub returns : goal.returns
returns g c =
    let end = run_ends _ _ _ c.loop-call.call-index _ _ c.loop-call-test.false c.loop-call.invariant.underway in
    list_done _ _ _ (coding_lawful _ (g.Y.Coding.lawful c.args.codings.now.yarn) (g.H.Coding.lawful c.args.codings.now.hands)) _ _ _ _ end.0 end.1 c.loop-call.invariant.release
