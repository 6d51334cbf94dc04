-- `inv_shift_sub` meets its contract: a column at a time. Assumes nothing.
use mathlib.Core.Path.{◌≡◌}
use mathlib.Core.List.{[], map}
use Prim.Native.Nat.{ℕ, ◌<◌}
use borrow.Author.Rules.{rules}
use lib.Dec.{lit<}
use lib.ListN.{get_or}
use Rattle.cipher.specs.Bytes.{tab, word_bytes, words_bytes}
use Rattle.cipher.specs.Fips197.{inv_s_box, inv_sub_bytes, cell, inv_shift_rows}
use Rattle.cipher.specs.inner.AesTables.{column, columns}
use Rattle.cipher.proofs.AesRounds.{each_made}
use Rattle.cipher.proofs.aes.Columns.inv_shift_sub.Goals as goal

pub returns : goal.returns
unfolding tab words_bytes word_bytes inv_sub_bytes cell inv_shift_rows column columns
returns c =
    let made : (i : ℕ) → i < 4 → word_bytes (get_or c.map.result i 0) ≡ map inv_s_box (get_or c.inv_shift_rows.result i []) = λ i h. let m = c.map.ensures.items.at i [] 0 h in search rules in
    each_made (map inv_s_box) _ _ _ _ c.inv_shift_rows.ensures (made 0 (lit< tt)) (made 1 (lit< tt)) (made 2 (lit< tt)) (made 3 (lit< tt))
