-- A sound list is an order.
use Rattle.std.proofs.Common.{ℕ, List}
use Rattle.bits.specs.Orders.{Sound, FirstFault}

pub no_fault : (n : ℕ) (list : List ℕ) (p : ℕ) → Sound n list → FirstFault n list p → ⊥
no_fault n list p sound f = let e = sound p f.within in let g = f.fault in cc
