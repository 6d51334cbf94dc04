use mathlib.Core.Path.{◌∙◌}
use Prim.Native.Nat.{◌≤◌, ◌<◌}
use native.Mathlib.Omega.{arith}
use native.Mathlib.Nat.{min-le_left}
use lib.ListN.{length, length-take}
use lib.Seq.{get_or-take}
use Rattle.cipher.specs.Bytes.{◌⊕◌}
use Rattle.cipher.proofs.Xor.{length-⊕-min}
use Rattle.cipher.proofs.Filling.{fill_start, fill_done}
use Rattle.cipher.proofs.Blocks.{xor_turn_in, drop_xored}
use Rattle.cipher.proofs.bytes.xor_into.Goals as goal

pub loop-i-init : goal.loop-i-init
loop-i-init g c = fill_start _ _ (rw length-⊕-min (min-le_left _ _))

pub loop-i-preserved : goal.loop-i-preserved
loop-i-preserved g c =
    let a = c.args.s.now in
    let b = c.args.b.now in
    let n = c.min-n.result in
    let h : c.loop-i.i < n = omega (arith, length-take n b) in
    let k : c.loop-i.i < length (a ⊕ b) = omega (arith, c.told-b, c.min-n.ensures, length-⊕-min a b) in
    rw (get_or-take n b c.loop-i.i 0 h) (xor_turn_in a b c.loop-i.invariant k)

pub returns : goal.returns
returns g c =
    let a = c.args.s.now in
    let b = c.args.b.now in
    let k : length (a ⊕ b) ≤ c.loop-i.i = omega (arith, c.told-b, c.min-n.ensures, length-take c.min-n.result b, length-⊕-min a b) in
    fill_done c.loop-i.invariant k ∙ drop_xored a b g.row.N c.told-b
