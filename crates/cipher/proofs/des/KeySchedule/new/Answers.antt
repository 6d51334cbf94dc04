use mathlib.Core.Path.{refl}
use Rattle.cipher.proofs.DesKeys.{keys_start, keys_turn, keys_done}
use Rattle.cipher.proofs.des.KeySchedule.new.Goals as goal

pub loop-i-init : goal.loop-i-init
loop-i-init c = keys_start _ _ _ refl c.of_key-halves.ensures

pub loop-i-preserved : goal.loop-i-preserved
loop-i-preserved c = keys_turn _ _ _ c.loop-i.invariant c.loop-i-test.true c.shifted-halves.ensures.c c.shifted-halves.ensures.d c.round_key.ensures

pub returns : goal.returns
returns c = keys_done c.loop-i.invariant c.loop-i-test.false
