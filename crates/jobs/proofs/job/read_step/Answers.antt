use Rattle.std.proofs.lemmas.Result.{err_from_is_err_and}
use Rattle.jobs.proofs.Operands.{step_wrong}
use Rattle.jobs.proofs.job.read_step.Goals as goal

pub returns-in_err-step_of-in-Step : goal.returns-in_err-step_of-in-Step
returns-in_err-step_of-in-Step c =
    let read = rw (c.in-Some.is) at c.in_ok-found.ensures in
    let p = err_from_is_err_and c.from_residual-in_err-step_of-in-Step.result c.from_residual-in_err-step_of-in-Step.ensures.1 in
    rw (p.1, p.2) (step_wrong c.args.line.now c.args.number c.in-Some.found c.in-Step.word _ read c.in-Step.is c.in_err-step_of-in-Step.ensures.wrong)
