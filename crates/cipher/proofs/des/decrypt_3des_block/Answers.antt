use Rattle.cipher.proofs.DesRounds.{tdea2_decrypted}
use Rattle.cipher.proofs.DesWiths.{with_schedule, back_with_schedule}
use Rattle.cipher.proofs.des.decrypt_3des_block.Goals as goal

pub returns : goal.returns
returns c =
    let first = back_with_schedule _ _ c.new-first.ensures in
    let second = with_schedule _ _ c.new-second.ensures in
    tdea2_decrypted _ _ _ _ _ _ (rw first at c.decrypt.ensures) (rw second at c.encrypt.ensures) (rw first at c.decrypt-2.ensures)
