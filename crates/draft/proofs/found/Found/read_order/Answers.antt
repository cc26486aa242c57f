use Rattle.draft.proofs.Orders.{sound_read, fault_read}
use Rattle.draft.proofs.found.Found.read_order.Goals as goal

pub returns-in-Ok : goal.returns-in-Ok
returns-in-Ok c = sound_read _ _ _ _ _ _ c.in_ok-list.ensures c.size_of.ensures c.in-Ok.ensures.2

pub returns-in-Err : goal.returns-in-Err
returns-in-Err c = rw (c.fault.ensures.reason, c.fault.ensures.offset, c.into.ensures) (fault_read _ _ _ _ _ _ _ c.in_ok-list.ensures c.size_of.ensures c.in-Err.ensures)
