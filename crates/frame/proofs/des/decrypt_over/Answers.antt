use lib.ListN.{replicate}
use Rattle.cipher.specs.Fips46.{des_decrypt}
use Rattle.cipher.specs.Sp80038a.{cbc_decrypt}
use Rattle.frame.specs.DesFrame.{des_plain}
use native.Mathlib.Omega.{arith}
use Rattle.frame.proofs.Fronts.{accepts_front, copied_in_place}
use Rattle.frame.proofs.des.decrypt_over.Goals as goal

pub unwrap-requires : goal.unwrap-requires
unwrap-requires c = accepts_front 8 _ _ _ c.decrypt_des_cbc_zero_iv.ensures.ok (omega (arith, c.copy.auto.dst)) c.requires.data_len

pub returns : goal.returns
unfolding des_plain
returns c =
    let a = c.args in
    copied_in_place 8 (cbc_decrypt (des_decrypt a.key) 8 (replicate 8 0)) a.«data».now a.work.now c.copy.new.dst _ c.requires.data_len c.requires.data_in_bounds c.copy.ensures
    c.decrypt_des_cbc_zero_iv.ensures.after c.decrypt_des_cbc_zero_iv.auto.data
