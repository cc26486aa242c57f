use Rattle.clib.proofs.Through.{turned_back}
use Rattle.clib.proofs.ciphered.turn_all_back.Goals as goal

pub returns : goal.returns
returns c =
    turned_back _ _ _ _ c.in_ok-cipher_of.field-0 c.in_ok-cipher_of.ensures c.new-turned.result.below c.new-turned.ensures c.through.result c.through.ensures
