use mathlib.Core.Path.{refl, ◌∙◌}
use native.Mathlib.Omega.{arith}
use Rattle.answer.specs.Number.{number_bytes}
use Rattle.frame.proofs.AesSeals.{iv_built}
use Rattle.frame.proofs.v2_aes.build_initial_vector_v2_aes128.Goals as goal

pub returns : goal.returns
returns c =
    let a = c.args in
    let g = c.well_formed in
    iv_built a.payload_length a.code (number_bytes a.number) a.transaction_id a.challenge_3c refl (omega (arith, g)) (omega (arith, g))
    c.copy_from_slice.new.self c.copy_from_slice-2.new.self c.copy_from_slice-3.new.self _ _ (c.copy_from_slice.ensures.after ∙ c.to_le_bytes.ensures) refl c.copy_from_slice-2.ensures.after refl c.copy_from_slice-3.ensures.after
