-- `sum_by_rows` meets its contract, by what a rotation does to the bytes of a word. Assumes nothing.
use mathlib.Core.Path.{refl}
use lib.Bits.{xor_lt}
use Rattle.cipher.proofs.Words.{turned}
use Rattle.cipher.proofs.aes.sum_by_rows.Goals as goal

pub returns : goal.returns
returns c =
    let a = c.args in
    let r = c.ranges in
    turned a.p _ _
    (turned a.q _ _ (turned a.r _ _ refl r.s.fits c.rotate_right.ensures) (xor_lt 32 _ _ r.r.fits c.rotate_right.type_inv) c.rotate_right-2.ensures)
    (xor_lt 32 _ _ r.q.fits c.rotate_right-2.type_inv)
    c.rotate_right-3.ensures
