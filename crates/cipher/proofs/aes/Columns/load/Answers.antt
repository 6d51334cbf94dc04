-- `load` meets its contract: four words of four bytes each, from a list of sixteen. Assumes nothing.
use mathlib.Core.Path.{◌≡◌, sym, ◌∙◌}
use lib.ListN.{length}
use native.Mathlib.Omega.{arith}
use Rattle.cipher.specs.Bytes.{tab}
use Rattle.cipher.proofs.Tabulation.{listed}
use Rattle.cipher.proofs.Words.{words_of}
use Rattle.cipher.proofs.aes.Columns.load.Goals as goal

pub returns : goal.returns
unfolding tab
returns c =
    let b = c.args.block in
    let l : length b ≡ 16 = omega arith in
    words_of _ _ _ _ c.word.ensures c.word-2.ensures c.word-3.ensures c.word-4.ensures ∙ sym (listed 16 b l)
