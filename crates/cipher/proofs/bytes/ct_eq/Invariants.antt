use lib.ListN.{length}
use Rattle.cipher.proofs.Compare.{Gathered}
use Rattle.cipher.proofs.bytes.ct_eq.Given as goal

abbrev pub invariant-loop-x : goal.invariant-loop-x
invariant-loop-x l = Gathered l.a l.b l.diff (length l.yielded)
