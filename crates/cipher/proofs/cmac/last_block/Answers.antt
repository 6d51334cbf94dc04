use mathlib.Core.Path.{◌∙◌}
use Prim.Native.Nat.{◌≤◌}
use native.Mathlib.Omega.{arith}
use lib.Dec.{lit<}
use lib.ListN.{length}
use lib.Seq.{take_all}
use Rattle.cipher.specs.Fips197.{cipher}
use Rattle.cipher.specs.Sp80038b.{R128}
use Rattle.cipher.proofs.Macs.{last_whole, last_short}
use Rattle.cipher.proofs.cmac.last_block.Goals as goal

pub returns-in-Some : goal.returns-in-Some
returns-in-Some c =
    let s = c.args.s.now in
    let e = c.in-Some.ensures.cases in
    let long : 16 ≤ length s = e.enough in
    last_whole (cipher c.args.keys.now) 16 R128 (lit< tt) s c.encrypt_block-l.ensures c.double-k1.ensures _ _ (omega arith) (e.same ∙ take_all 16 s c.requires) c.xor_blocks.ensures

pub returns-in-None : goal.returns-in-None
returns-in-None c =
    let e = c.in-None.ensures.cases in
    last_short (cipher c.args.keys.now) 16 R128 (lit< tt) c.args.s.now c.encrypt_block-l.ensures c.double-k1.ensures _ _ _ e c.double-k2.ensures c.padded.ensures
    c.xor_blocks-in-None.ensures
