use mathlib.Core.Path.{◌≡◌, refl, ◌∙◌}
use native.Mathlib.Omega.{arith}
use lib.ListN.{length}
use Rattle.answer.specs.Number.{number_bytes}
use Rattle.answer.proofs.Outputs.{placed_over}
use Rattle.answer.proofs.Pieces.{placed_next}
use Rattle.frame.specs.DesFrame.{header}
use Rattle.frame.proofs.des.SecureResponseHeader.write.Goals as goal

pub returns : goal.returns
unfolding header
returns c =
    let o = c.args.out.now in
    let n = number_bytes c.args.self.transaction_number in
    let six : length c.args.self.transaction_id ≡ 6 = omega arith in
    placed_next n o _ 2 6 refl (omega arith) (placed_over n o _ 2 refl (c.copy_from_slice.ensures.after ∙ c.to_le_bytes.ensures)) c.args.self.transaction_id _ six c.copy_from_slice-2.ensures.after
