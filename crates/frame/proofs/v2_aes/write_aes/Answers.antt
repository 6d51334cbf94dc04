use mathlib.Core.Path.{refl, ◌∙◌}
use mathlib.Core.List.{◌++◌}
use native.Mathlib.Omega.{arith}
use Prim.Native.Nat.{◌+◌, ◌-◌}
use lib.ListN.{length, drop}
use Rattle.frame.specs.AesFrame.{aes_size}
use Rattle.frame.specs.inner.AesSteps.{bytes_of}
use Rattle.frame.proofs.AesSeals.{with_part, sealed_written, cipher_key_is, mac_key_is, challenge_3c_is}
use Rattle.frame.proofs.v2_aes.write_aes.Goals as goal

pub returns : goal.returns
unfolding aes_size
returns c =
    let a = c.args in
    let k = a.credentials in
    let n = length a.payload.now in
    let s₁ = c.copy_from_slice.new.self ++ drop 2 a.out.now in
    let s₂ = with_part s₁ 2 (n + 2 - 2) c.copy.new.dst in
    let s₃ = with_part s₂ 2 (n + 2 - 2) c.apply_aes128_ofb_parts.new.first in
    let w = sealed_written a.code a.number a.id (bytes_of k) a.payload.now a.out.now c.requires.payload_in_bounds _ _ _ _ _ _ _ s₂ _ s₃ _ _
    (challenge_3c_is k (omega arith) (omega arith)) c.build_initial_vector_v2_aes128-iv.ensures (mac_key_is k (omega arith) (omega arith)) c.calculate_mac_v2_aes128-mac.ensures (omega (arith, c.calculate_mac_v2_aes128-mac.type_inv))
    (c.copy_from_slice.ensures.after ∙ c.to_le_bytes.ensures) c.copy.ensures refl (cipher_key_is k (omega arith) (omega arith)) c.apply_aes128_ofb_parts.ensures.first_after c.apply_aes128_ofb_parts.auto.first refl
    c.apply_aes128_ofb_parts.ensures.second_after c.apply_aes128_ofb_parts.auto.second c.copy_from_slice-2.ensures.after in
    (refl, omega arith, w.0, w.1, refl)
