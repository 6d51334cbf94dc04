use mathlib.Core.Path.{refl, sym}
use Prim.Native.Nat.{◌-◌, ◌+◌}
use native.Mathlib.Omega.{arith}
use lib.ListN.{length, length-append}
use Rattle.answer.proofs.Outputs.{placed_over}
use Rattle.answer.proofs.Pieces.{placed_next}
use Rattle.agreement.proofs.transcript.join.Goals as goal

pub returns : goal.returns
returns c =
    let a = c.args.a.now in
    let b = c.args.b.now in
    let o = c.args.out.now in (
      sym (length-append a b),
      placed_next a o _ (length a) (length a + length b - length a) refl (omega (arith, c.requires))
          (placed_over a o _ (length a) refl c.copy_from_slice.ensures.after) b _ (omega arith) c.copy_from_slice-2.ensures.after,
    )
