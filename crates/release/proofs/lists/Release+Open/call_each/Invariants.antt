use Rattle.std.proofs.Common.{◌≡◌, ◌+◌, ◌≤◌, length, vec_items, vec_len, vec_capacity}
use Rattle.release.specs.Listed.{state_of}
use Rattle.release.specs.Views.{meanings_of, setup_of, with_taken}
use Rattle.release.proofs.Running.{Underway}
use Rattle.release.proofs.lists.Release+Open.call_each.Given as goal

abbrev pub invariant-loop-call : goal.invariant-loop-call
invariant-loop-call g l =
    record {
      underway : Underway (setup_of l.initial.self.plain (meanings_of g.Y.Coding.means g.H.Coding.means l.codings)) (state_of l.initial.self.plain l.initial.memory) l.calls l.call-index (state_of l.self.plain l.memory) (vec_items l.told);
      release : l.self.plain ≡ with_taken l.initial.self.plain l.self.plain.taken;
      room : vec_len l.told + length l.calls ≤ vec_capacity l.told + l.call-index;
    }
