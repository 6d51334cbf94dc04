-- `decrypt_block` meets its contract. The loop's invariant: after n turns the state is that of n rounds. Assumes nothing.
use mathlib.Core.Path.{◌≡◌}
use lib.ListN.{length}
use Rattle.cipher.specs.Fips197.{inv_rounds}
use Rattle.cipher.specs.inner.AesTables.{bytes_of}
use Rattle.cipher.proofs.aes.KeySchedule.decrypt_block.Given as goal

abbrev pub invariant-loop-key : goal.invariant-loop-key
invariant-loop-key l = bytes_of l.state ≡ inv_rounds l.self l.fn.block (length l.yielded)
