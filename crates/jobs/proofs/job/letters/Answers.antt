use Rattle.jobs.proofs.job.letters.Goals as goal

pub returns-in-Ok : goal.returns-in-Ok
returns-in-Ok c =
    let said = c.in_ok-letters.ensures.read in
    (said.0, (_, said.1, c.in-Ok.ensures))
