-- `sub_shift_mix` meets its contract: a column at a time. Assumes nothing.
use mathlib.Core.Path.{◌≡◌}
use mathlib.Core.List.{List, [], map}
use Prim.Native.Nat.{ℕ, ◌<◌}
use borrow.Author.Rules.{rules}
use lib.Dec.{lit<}
use lib.ListN.{get_or}
use Rattle.cipher.specs.Bytes.{tab, word_bytes, words_bytes}
use Rattle.cipher.specs.Fips197.{s_box, sub_bytes, cell, shift_rows, mixed, mix_columns}
use Rattle.cipher.specs.inner.AesTables.{column, columns, mixed_column}
use Rattle.cipher.proofs.AesRounds.{each_made}
use Rattle.cipher.proofs.aes.Columns.sub_shift_mix.Goals as goal

pub returns : goal.returns
unfolding tab words_bytes word_bytes sub_bytes cell shift_rows mixed mix_columns mixed_column column columns
returns c =
    let made : (i : ℕ) → i < 4 → word_bytes (get_or c.map.result i 0) ≡ mixed_column 0x02 0x03 0x01 0x01 (map s_box (get_or c.shift_rows.result i [])) = λ i h. let m = c.map.ensures.items.at i [] 0 h in search rules in
    each_made (λ (t : List ℕ). mixed_column 0x02 0x03 0x01 0x01 (map s_box t)) _ _ _ _ c.shift_rows.ensures (made 0 (lit< tt)) (made 1 (lit< tt)) (made 2 (lit< tt)) (made 3 (lit< tt))
