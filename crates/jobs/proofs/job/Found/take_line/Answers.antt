use Rattle.jobs.proofs.Heading.{good_blank}
use Rattle.jobs.proofs.job.Found.take_line.Goals as goal

pub returns-in_default : goal.returns-in_default
returns-in_default c = λ ls good. good_blank ls c.args.line.now c.args.self.now (rw c.in_default.is at c.in_ok-next.ensures) good
