use mathlib.Core.Path.{◌≡◌}
use lib.ListN.{length}
use native.Mathlib.Omega.{arith}
use Rattle.cipher.proofs.Blocks.{added}
use Rattle.cipher.proofs.ofb.add_at.Goals as goal

pub returns : goal.returns
returns c =
    let a = c.args in
    let l : length a.output ≡ 16 = omega arith in
    added a.s.now a.output _ a.at 16 l c.xor_into.ensures
