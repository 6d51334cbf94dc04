-- `encrypt_block` meets its contract. The loop's invariant: after n turns the state is that of n rounds. Assumes nothing.
use mathlib.Core.Path.{◌≡◌}
use Rattle.cipher.specs.Fips197.{rounds}
use Rattle.cipher.specs.inner.AesTables.{bytes_of}
use Rattle.cipher.proofs.aes.KeySchedule.encrypt_block.Given as goal

abbrev pub invariant-loop-key : goal.invariant-loop-key
invariant-loop-key l = bytes_of l.state ≡ rounds l.self l.fn.block l.key-index
