use Rattle.std.proofs.Common.{◌≡◌}
use Rattle.frame.proofs.Trims.{found}
use Rattle.frame.proofs.des.trim_count.Given as goal

abbrev pub invariant-loop-v : goal.invariant-loop-v
invariant-loop-v l = l.count ≡ found l.payload l.v
