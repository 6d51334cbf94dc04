-- `sub_shift` meets its contract: a column at a time. Assumes nothing.
use mathlib.Core.Path.{◌≡◌}
use mathlib.Core.List.{[], map}
use Prim.Native.Nat.{ℕ, ◌<◌}
use borrow.Author.Rules.{rules}
use lib.Dec.{lit<}
use lib.ListN.{get_or}
use Rattle.cipher.specs.Bytes.{tab, word_bytes, words_bytes}
use Rattle.cipher.specs.Fips197.{s_box, sub_bytes, cell, shift_rows}
use Rattle.cipher.specs.inner.AesTables.{column, columns}
use Rattle.cipher.proofs.AesRounds.{each_made}
use Rattle.cipher.proofs.aes.Columns.sub_shift.Goals as goal

pub returns : goal.returns
unfolding tab words_bytes word_bytes sub_bytes cell shift_rows column columns
returns c =
    let made : (i : ℕ) → i < 4 → word_bytes (get_or c.map.result i 0) ≡ map s_box (get_or c.shift_rows.result i []) = λ i h. let m = c.map.ensures.items.at i [] 0 h in search rules in
    each_made (map s_box) _ _ _ _ c.shift_rows.ensures (made 0 (lit< tt)) (made 1 (lit< tt)) (made 2 (lit< tt)) (made 3 (lit< tt))
