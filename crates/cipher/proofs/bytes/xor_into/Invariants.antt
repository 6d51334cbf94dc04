use Rattle.cipher.specs.Bytes.{◌⊕◌}
use Rattle.cipher.proofs.Filling.{Filled}
use Rattle.cipher.proofs.bytes.xor_into.Given as goal

abbrev pub invariant-loop-i : goal.invariant-loop-i
invariant-loop-i g l = Filled (l.fn.s ⊕ l.b) l.fn.s l.s l.i
