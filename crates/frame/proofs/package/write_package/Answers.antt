use mathlib.Core.Path.{◌≡◌, refl}
use Prim.Native.Nat.{◌+◌, ◌-◌}
use native.Mathlib.Omega.{arith}
use lib.ListN.{length}
use Rattle.answer.proofs.Pieces.{placed_next}
use Rattle.frame.proofs.Fronts.{accepts_front}
use Rattle.frame.proofs.RegistrationPackage.{plain_again, package_written}
use Rattle.frame.proofs.package.write_package.Goals as goal

pub unwrap-requires : goal.unwrap-requires
unwrap-requires c = accepts_front 8 _ _ _ c.encrypt_des_cbc_zero_iv.ensures.ok (omega (arith, c.copy.auto.dst, c.copy_from_slice.auto.self)) (omega (arith, c.requires.plain_len))

pub returns : goal.returns
returns c =
    let a = c.args in
    let p = a.plain.now in
    let o = a.out.now in
    let n = length p in
    let m = c.package_mac-mac.ensures in
    let mac = c.package_mac-mac.result in
    let lm : length mac ≡ 8 = omega arith in
    let e2 = plain_again a.key p o _ _ m.1 (omega arith) m.2 c.copy.ensures in
    let e3 = placed_next p o _ n (n + 8 - n) refl (omega arith) e2 mac _ (omega arith) c.copy_from_slice.ensures.after in
    let w = package_written a.key p mac o _ _ c.requires.plain_len m.0 lm e3 c.encrypt_des_cbc_zero_iv.ensures.after c.encrypt_des_cbc_zero_iv.auto.data in
    (refl, w.0, w.1)
