-- `shift_rows` meets its contract, by computation. Assumes nothing.
use Rattle.cipher.specs.Bytes.{tab, word_bytes, words_bytes}
use Rattle.cipher.specs.Fips197.{cell, shift_rows}
use Rattle.cipher.specs.inner.AesTables.{column, columns}
use Rattle.cipher.proofs.aes.Columns.shift_rows.Goals as goal

pub returns : goal.returns
unfolding tab words_bytes word_bytes cell shift_rows column columns
returns c = rw (c.to_be_bytes-a.ensures, c.to_be_bytes-b.ensures, c.to_be_bytes-c.ensures, c.to_be_bytes-d.ensures)
