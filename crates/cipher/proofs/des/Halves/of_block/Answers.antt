use mathlib.Core.Path.{◌≡◌, ap, ap₂, ◌∙◌}
use mathlib.Core.List.{◌++◌}
use native.Mathlib.Nat.{le_refl}
use borrow.Author.Rules.{rules}
use lib.Dec.{lit<}
use lib.ListN.{length}
use Rattle.cipher.specs.Bits.{bits}
use Rattle.cipher.proofs.BitWords.{bits_mod, turned_word}
use Rattle.cipher.proofs.DesRounds.{held_turned}
use Rattle.cipher.proofs.DesWords.{load_word, initial_word}
use Rattle.cipher.proofs.des.Halves.of_block.Goals as goal

pub returns : goal.returns
returns c =
    let block = c.args.block in
    let h : length block ≡ 8 = search rules in
    let low = turned_word 32 1 c.low.result (lit< tt) c.low.type_inv in
    let high = turned_word 32 1 c.high.result (lit< tt) c.high.type_inv in
    ap₂ ◌++◌ (held_turned _ _ (ap (bits 32) c.rotate_left.ensures ∙ low) ∙ ap (bits 32) c.low.ensures ∙ bits_mod 32 32 _ (le_refl 32))
    (held_turned _ _ (ap (bits 32) c.rotate_left-2.ensures ∙ high) ∙ ap (bits 32) c.high.ensures)
    ∙ initial_word block _ _ _ _ h (load_word block _ h (λ i. search rules) c.from_le_bytes.ensures) c.transpose-x.ensures c.delta_swap-y.ensures c.delta_swap-z.ensures
