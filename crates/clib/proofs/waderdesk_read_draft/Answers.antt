use Rattle.std.proofs.Common.{Ok, Err, refl}
use Rattle.clib.proofs.waderdesk_read_draft.Goals as goal

pub returns-in-Ok : goal.returns-in-Ok
returns-in-Ok c = record { read = Ok c.in-Ok.field-0.parts; told = c.in-Ok.ensures; answer = refl }

pub returns-in-Err : goal.returns-in-Err
returns-in-Err c = record { read = Err c.in-Err.fault; told = c.in-Err.ensures; answer = c.fault.ensures }
