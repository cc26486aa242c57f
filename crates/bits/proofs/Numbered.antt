-- The places of an order with their numbers, as a chain gives them.
use Rattle.std.proofs.Common.{◌≡◌, ℕ, List, Iter}
use Rattle.std.specs.declared.iter.Enumerate.{Enumerate}
use Rattle.std.specs.Iterator.Adapters.{enumerate_source, enumerate_count, enumerate_steps}
use Rattle.std.specs.List.{enumerate_from}
use Rattle.std.specs.Slice.Iter.{iter_rest}
use Rattle.std.proofs.iter.Yields.{fronts}
use Rattle.std.proofs.lemmas.Iterator.{YieldsList, YieldsList-from_slice}
use Rattle.std.proofs.lemmas.Iterator.Consumers.{YieldsList-from_enumerate}

pub numbered : {s : Enumerate (Iter ℕ)} (places : List ℕ) → iter_rest (enumerate_source s) ≡ places → enumerate_count s ≡ 0
    → YieldsList {B = ℕ × ℕ} (enumerate_steps fronts) (λ p. (p.0, p.1.now)) s (enumerate_from 0 places)
numbered places left none = YieldsList-from_enumerate (YieldsList-from_slice places left) none
