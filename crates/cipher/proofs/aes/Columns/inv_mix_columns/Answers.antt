-- `inv_mix_columns` meets its contract: a column at a time. Assumes nothing.
use Rattle.cipher.specs.Bytes.{tab, word_bytes, words_bytes}
use Rattle.cipher.specs.Fips197.{cell, mixed, inv_mix_columns}
use Rattle.cipher.specs.inner.AesTables.{mixed_column}
use Rattle.cipher.proofs.Words.{words_of}
use Rattle.cipher.proofs.aes.Columns.inv_mix_columns.Goals as goal

pub returns : goal.returns
unfolding tab words_bytes word_bytes cell mixed inv_mix_columns mixed_column
returns c = words_of _ _ _ _ c.inv_mix_column.ensures c.inv_mix_column-2.ensures c.inv_mix_column-3.ensures c.inv_mix_column-4.ensures
