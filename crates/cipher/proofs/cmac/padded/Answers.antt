use Prim.Native.Nat.{◌≤◌}
use native.Mathlib.Omega.{arith}
use lib.ListN.{length}
use lib.Seq.{take_all}
use Rattle.cipher.proofs.Macs.{padded_is}
use Rattle.cipher.proofs.cmac.padded.Goals as goal

pub returns : goal.returns
returns c =
    let s = c.args.s.now in
    let k : length s ≤ 16 = omega arith in
    padded_is 16 s _ c.requires (rw (take_all 16 s k) at c.copy.ensures)
