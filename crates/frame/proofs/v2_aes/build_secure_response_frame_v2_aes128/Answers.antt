use mathlib.Core.Path.{refl, ◌∙◌}
use native.Mathlib.Omega.{arith}
use borrow.Author.Rules.{rules}
use lib.ListN.{length, replicate}
use Rattle.answer.specs.Tests.{both}
use Rattle.answer.proofs.Rows.{numbered}
use Rattle.frame.specs.AesFrame.{aes_sealed, aes_size, aes_seal_rows}
use Rattle.frame.proofs.WorkBlocks.{aes_sealed_into, refused_frame, delivered_frame, frame_front, aes_frame_steps}
use Rattle.frame.proofs.v2_aes.build_secure_response_frame_v2_aes128.Goals as goal

pub returns-in_err-id : goal.returns-in_err-id
returns-in_err-id c =
    let a = c.args in
    rw (aes_frame_steps a.credentials.now a.id.now a.payload.now a.code a.number (length a.out.now)) (refused_frame _ _ _ _ a.code _ c.in_err-id.field-0.0 a.out.now (search rules) c.in_err-id.ensures)

pub returns : goal.returns
unfolding numbered both aes_seal_rows aes_size
returns c =
    let a = c.args in
    let s = aes_sealed_into a.code a.number a.id.now a.credentials.now a.payload.now _ _ _ _ _ (c.in_ok-id.id, c.in_ok-id.credentials) c.in_ok-id.ensures c.write_aes-sealed.ensures in
    let t = c.frame_with_length_prefix-end.ensures in
    rw (aes_frame_steps a.credentials.now a.id.now a.payload.now a.code a.number (length a.out.now))
    (delivered_frame (aes_seal_rows (length a.id.now) (length a.credentials.now) (length a.payload.now)) (aes_sealed a.credentials.now a.code a.number a.id.now a.payload.now) (aes_size (length a.payload.now)) 0 refl _ _ _ s (length a.out.now) a.code _ (omega arith)
    (frame_front _ a.code _ (replicate 256 0) _ _ _ _ (s.1 ∙ s.3) (omega arith) s.4 t.1) (rw t.0 at c.deliver.ensures))
