use mathlib.Core.Path.{sym, ◌∙◌}
use Prim.Native.Nat.{◌<◌}
use native.Mathlib.Omega.{arith}
use lib.ListN.{length, take, length-take}
use lib.Seq.{get_or-take}
use Rattle.cipher.proofs.Filling.{fill_step}
use Rattle.cipher.proofs.bytes.copy.Goals as goal

pub loop-i-preserved : goal.loop-i-preserved
loop-i-preserved c =
    let s = c.args.src.now in
    let n = length c.args.dst.now in
    let i = c.loop-i.i in
    let h : i < c.min-n.result = omega (arith, length-take c.min-n.result s) in
    let k : i < n = omega (arith, c.min-n.ensures) in
    let l : i < length (take n s) = omega (arith, length-take n s, c.min-n.ensures) in
    fill_step c.loop-i.invariant l _ (get_or-take c.min-n.result s i 0 h ∙ sym (get_or-take n s i 0 k))
