use Prim.Native.Nat.{◌-◌}
use lib.ListN.{length}
use Rattle.cipher.specs.Fips197.{cipher}
use Rattle.cipher.proofs.Modes.{OfbAt}
use Rattle.cipher.proofs.ofb.apply.Given as goal

abbrev pub invariant-loop-at : goal.invariant-loop-at
invariant-loop-at l = OfbAt (cipher l.keys) l.fn.iv l.initial.data l.input l.data l.at

abbrev pub decreases-loop-at : goal.decreases-loop-at
decreases-loop-at l = length l.initial.data - l.at
