use Rattle.jobs.proofs.Reading.{cipher_read}
use Rattle.jobs.proofs.parse.cipher.Goals as goal

pub returns-clause-read : goal.returns-clause-read
returns-clause-read c = cipher_read _ _ c.in_ok-key.ensures.grown _ _ _ _ _ _ c.in_ok-draft.ensures.read c.in_ok-past_sign.ensures.read c.in_ok-key.ensures.read
