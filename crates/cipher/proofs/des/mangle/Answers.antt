-- The sum of eight entries of the table.
use lib.Dec.{lit<}
use Rattle.cipher.proofs.BitWords.{turned_back_word}
use Rattle.cipher.proofs.DesRounds.{mangle_word}
use mathlib.Core.Path.{ap, ◌∙◌}
use Rattle.cipher.specs.Bits.{bits}
use Rattle.cipher.proofs.des.mangle.Goals as goal

pub returns : goal.returns
returns c =
    mangle_word c.args.r c.args.key _ _ _ _ _ _ _ _ _ _ _ c.low.ensures c.high.ensures (ap (bits 32) c.rotate_right.ensures ∙ turned_back_word 32 28 c.args.r (lit< tt) c.ranges.r.fits)
    c.pick-b1.ensures c.pick-b2.ensures c.pick-b3.ensures c.pick-b4.ensures
    c.pick-b5.ensures c.pick-b6.ensures c.pick-b7.ensures c.pick-b8.ensures
