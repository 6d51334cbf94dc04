use mathlib.Core.Path.{refl}
use borrow.Author.Rules.{rules}
use lib.ListN.{length, replicate}
use Rattle.answer.specs.Tests.{both}
use Rattle.answer.proofs.Rows.{numbered, row_meets}
use Rattle.frame.specs.AesFrame.{aes_sealed, aes_size, aes_seal_rows}
use Rattle.frame.proofs.AesSeals.{aes_seal_steps}
use Rattle.frame.proofs.WorkBlocks.{aes_sealed_into, delivered}
use Rattle.frame.proofs.v2_aes.encrypt_secure_request_v2_aes128.Goals as goal

pub returns-in_err-id : goal.returns-in_err-id
returns-in_err-id c =
    let a = c.args in
    rw (aes_seal_steps a.credentials.now a.id.now a.payload.now a.code a.number (length a.out.now)) (row_meets _ _ c.in_err-id.field-0.0 a.out.now (search rules) c.in_err-id.ensures)

pub returns : goal.returns
unfolding numbered both aes_seal_rows
returns c =
    let a = c.args in
    rw (aes_seal_steps a.credentials.now a.id.now a.payload.now a.code a.number (length a.out.now))
    (delivered (aes_seal_rows (length a.id.now) (length a.credentials.now) (length a.payload.now)) (aes_sealed a.credentials.now a.code a.number a.id.now a.payload.now) (aes_size (length a.payload.now)) 0 refl _ (replicate 256 0) _ (aes_sealed_into a.code a.number a.id.now a.credentials.now a.payload.now _ _ _ (replicate 256 0) _ (c.in_ok-id.id, c.in_ok-id.credentials) c.in_ok-id.ensures c.write_aes-sealed.ensures) (length a.out.now) c.deliver.ensures)
