use Rattle.jobs.proofs.Reading.{plus_read}
use Rattle.jobs.proofs.parse.plus.Goals as goal

pub returns : goal.returns
returns c = plus_read _ _ _ _ _ _ c.in_ok-top.ensures.read c.in_ok-past_sign.ensures.read c.in_ok-constant.ensures.read
