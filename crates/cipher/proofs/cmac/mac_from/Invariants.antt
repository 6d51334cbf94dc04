use Prim.Native.Nat.{◌*◌}
use lib.Dec.{lit<}
use Rattle.cipher.specs.Fips197.{cipher}
use Rattle.cipher.specs.Sp80038b.{R128}
use Rattle.cipher.proofs.Macs.{Mac}
use Rattle.cipher.proofs.cmac.mac_from.Given as goal

abbrev pub invariant-loop-block : goal.invariant-loop-block
invariant-loop-block l = Mac (cipher l.keys) 16 R128 (lit< tt) l.s l.fn.start l.state (16 * l.block-index)
