-- `new` meets its contract. The loop's invariant: the round key at hand is the last of those made so far. Assumes nothing.
use Rattle.cipher.specs.inner.AesTables.{RoundKeyOf}
use Rattle.cipher.proofs.AesSchedule.{KeysMade}
use Rattle.cipher.proofs.aes.KeySchedule.new.Given as goal

abbrev pub invariant-loop-place : goal.invariant-loop-place
invariant-loop-place l = RoundKeyOf l.fn.key l.place-index l.key × KeysMade l.fn.key l.place-index l.place-items
