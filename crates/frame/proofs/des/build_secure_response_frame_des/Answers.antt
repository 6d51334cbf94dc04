use mathlib.Core.Path.{refl, ◌∙◌}
use native.Mathlib.Omega.{arith}
use borrow.Author.Rules.{rules}
use lib.ListN.{length, replicate}
use Rattle.answer.specs.Tests.{both}
use Rattle.answer.proofs.Rows.{numbered}
use Rattle.frame.specs.DesFrame.{des_sealed, des_size, seal_rows}
use Rattle.frame.proofs.DesSeals.{size_most}
use Rattle.frame.proofs.WorkBlocks.{des_sealed_into, refused_frame, delivered_frame, frame_front, des_frame_steps}
use Rattle.frame.proofs.des.build_secure_response_frame_des.Goals as goal

pub returns-in_err-head : goal.returns-in_err-head
returns-in_err-head c =
    let a = c.args in
    rw (des_frame_steps a.key.now a.id.now a.payload.now a.code a.number (length a.out.now)) (refused_frame _ _ _ _ a.code _ c.in_err-head.field-0.0 a.out.now (search rules) c.in_err-head.ensures)

pub write_des-sealed-requires-clause-payload_in_bounds : goal.write_des-sealed-requires-clause-payload_in_bounds
write_des-sealed-requires-clause-payload_in_bounds c = omega (arith, size_most _ c.in_ok-head.ensures.1)

pub returns : goal.returns
unfolding numbered both seal_rows des_size
returns c =
    let a = c.args in
    let s = des_sealed_into a.code a.number a.id.now a.key.now a.payload.now _ _ _ _ _ _ c.in_ok-head.ensures c.write_des-sealed.ensures in
    let t = c.frame_with_length_prefix-end.ensures in
    rw (des_frame_steps a.key.now a.id.now a.payload.now a.code a.number (length a.out.now))
    (delivered_frame (seal_rows (length a.id.now) (length a.key.now) (length a.payload.now)) (des_sealed a.key.now a.code a.number a.id.now a.payload.now) (des_size (length a.payload.now)) _ refl _ _ _ s (length a.out.now) a.code _ (omega arith)
    (frame_front _ a.code _ (replicate 256 0) _ _ _ _ (s.1 ∙ s.3) (omega arith) s.4 t.1) (rw t.0 at c.deliver.ensures))
