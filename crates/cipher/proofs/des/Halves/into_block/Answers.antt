use mathlib.Core.Path.{ap, ◌∙◌}
use borrow.Author.Rules.{rules}
use lib.Dec.{lit<}
use Rattle.cipher.specs.Bits.{bits}
use Rattle.cipher.proofs.BitWords.{turned_back_word}
use Rattle.cipher.proofs.DesWords.{last_word, store_word}
use Rattle.cipher.proofs.des.Halves.into_block.Goals as goal

pub returns : goal.returns
returns c =
    let l = c.args.self.l in
    let r = c.args.self.r in
    last_word l r _ _ _ _ _ _ _ (ap (bits 32) c.rotate_right.ensures ∙ turned_back_word 32 31 l (lit< tt) (search rules)) (ap (bits 32) c.rotate_right-2.ensures ∙ turned_back_word 32 31 r (lit< tt) (search rules))
    c.rotate_right-2.type_inv c.joined-x.ensures c.delta_swap-y.ensures c.delta_swap-z.ensures c.transpose.ensures (c.to_le_bytes.ensures ∙ store_word c.transpose.result)
