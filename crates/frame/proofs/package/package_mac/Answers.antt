use mathlib.Core.Path.{◌≡◌}
use lib.ListN.{length}
use native.Mathlib.Omega.{arith}
use Rattle.frame.proofs.Fronts.{accepts_front}
use Rattle.frame.proofs.RegistrationPackage.{cipher_written, last_block}
use borrow.Author.Rules.{rules}
use Rattle.frame.proofs.package.package_mac.Goals as goal

pub unwrap-requires : goal.unwrap-requires
unwrap-requires c = accepts_front 8 _ _ _ c.encrypt_des_cbc_zero_iv.ensures.ok (omega (arith, c.copy.auto.dst)) c.requires.plain_len

pub returns : goal.returns
returns c =
    let a = c.args in
    let p = a.plain.now in
    let o = a.out.now in
    let eight : length a.key ≡ 8 = omega arith in
    let q = cipher_written a.key _ p o _ _ c.requires.plain_len c.requires.plain_in_bounds c.copy.ensures eight c.xor_blocks.ensures c.encrypt_des_cbc_zero_iv.ensures.after c.encrypt_des_cbc_zero_iv.auto.data in
    (last_block a.key p o _ _ q.0 c.requires.in_bounds q.1 (c.fit.ensures.1 (search rules)), q.0, q.1)
