-- `des::transpose` meets its contract: three exchanges. Assumes nothing.
use Rattle.cipher.proofs.DesWords.{transpose_word}
use Rattle.cipher.proofs.des.transpose.Goals as goal

pub returns : goal.returns
returns c =
    transpose_word c.args.x _ _ _ c.delta_swap-y.ensures c.delta_swap-z.ensures c.delta_swap.ensures
