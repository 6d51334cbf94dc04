-- `store` meets its contract, by computation. Assumes nothing.
use Rattle.cipher.specs.Bytes.{word_bytes, words_bytes}
use Rattle.cipher.proofs.aes.Columns.store.Goals as goal

pub returns : goal.returns
unfolding words_bytes word_bytes
returns c = rw (c.to_be_bytes.ensures, c.to_be_bytes-2.ensures, c.to_be_bytes-3.ensures, c.to_be_bytes-4.ensures)
