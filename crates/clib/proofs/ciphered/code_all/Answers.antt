use Rattle.clib.proofs.Through.{coded}
use Rattle.clib.proofs.ciphered.code_all.Goals as goal

pub returns : goal.returns
returns c = coded _ _ _ _ c.in_ok-cipher.cipher c.in_ok-cipher.ensures c.through.result c.through.ensures
