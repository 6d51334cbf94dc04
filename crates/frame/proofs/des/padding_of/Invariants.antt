use Rattle.std.proofs.Common.{replicate}
use Rattle.cipher.proofs.Compare.{Gathered}
use Rattle.frame.proofs.des.padding_of.Given as goal

abbrev pub invariant-loop-x : goal.invariant-loop-x
invariant-loop-x l = Gathered l.x-items (replicate l.v l.v) l.diff l.x-index
