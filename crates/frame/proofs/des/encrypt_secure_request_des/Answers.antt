use mathlib.Core.Path.{refl}
use native.Mathlib.Omega.{arith}
use borrow.Author.Rules.{rules}
use Prim.Native.Nat.{◌+◌}
use lib.ListN.{length, replicate}
use Rattle.answer.specs.Tests.{both}
use Rattle.answer.proofs.Rows.{numbered, row_meets}
use Rattle.frame.specs.DesFrame.{des_sealed, des_size, seal_rows}
use Rattle.frame.specs.Padding.{pad_count}
use Rattle.frame.proofs.DesSeals.{size_most, seal_steps}
use Rattle.frame.proofs.WorkBlocks.{des_sealed_into, delivered}
use Rattle.frame.proofs.des.encrypt_secure_request_des.Goals as goal

pub returns-in_err-head : goal.returns-in_err-head
returns-in_err-head c =
    let a = c.args in
    rw (seal_steps a.key.now a.id.now a.payload.now a.code a.number (length a.out.now)) (row_meets _ _ c.in_err-head.field-0.0 a.out.now (search rules) c.in_err-head.ensures)

pub write_des-sealed-requires-clause-payload_in_bounds : goal.write_des-sealed-requires-clause-payload_in_bounds
write_des-sealed-requires-clause-payload_in_bounds c = omega (arith, size_most _ c.in_ok-head.ensures.1)

pub returns : goal.returns
unfolding numbered both seal_rows
returns c =
    let a = c.args in
    rw (seal_steps a.key.now a.id.now a.payload.now a.code a.number (length a.out.now))
    (delivered (seal_rows (length a.id.now) (length a.key.now) (length a.payload.now)) (des_sealed a.key.now a.code a.number a.id.now a.payload.now) (des_size (length a.payload.now)) (pad_count (length a.payload.now + 8)) refl _ (replicate 256 0) _ (des_sealed_into a.code a.number a.id.now a.key.now a.payload.now _ _ _ (replicate 256 0) _ _ c.in_ok-head.ensures c.write_des-sealed.ensures) (length a.out.now) c.deliver.ensures)
