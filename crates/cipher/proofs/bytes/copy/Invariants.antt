use lib.ListN.{length, take}
use Rattle.cipher.proofs.Filling.{Filled}
use Rattle.cipher.proofs.bytes.copy.Given as goal

abbrev pub invariant-loop-i : goal.invariant-loop-i
invariant-loop-i l = Filled (take (length l.fn.dst) l.src) l.fn.dst l.dst l.i
