use Rattle.cipher.proofs.DesRounds.{tdea2_encrypted}
use Rattle.cipher.proofs.DesWiths.{with_schedule, back_with_schedule}
use Rattle.cipher.proofs.des.encrypt_3des_block.Goals as goal

pub returns : goal.returns
returns c =
    let first = with_schedule _ _ c.new-first.ensures in
    let second = back_with_schedule _ _ c.new-second.ensures in
    tdea2_encrypted _ _ _ _ _ _ (rw first at c.encrypt.ensures) (rw second at c.decrypt.ensures) (rw first at c.encrypt-2.ensures)
