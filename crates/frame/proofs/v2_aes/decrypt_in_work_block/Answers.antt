use native.Mathlib.Omega.{arith}
use Prim.Native.Nat.{ℕ}
use lib.ListN.{length, length-take, replicate}
use Rattle.frame.specs.inner.AesSteps.{bytes_of}
use Rattle.frame.proofs.AesSeals.{cipher_key_is, mac_key_is, challenge_3c_is}
use Rattle.frame.proofs.AesOpens.{aes_accepting_meets, aes_opened}
use Rattle.frame.proofs.v2_aes.decrypt_in_work_block.Goals as goal

pub returns : goal.returns
returns c =
    let a = c.args in
    let k = a.credentials in
    rw (← aes_opened a.code a.number a.id (bytes_of k) a.sealed.now a.mac (replicate 256 0) (omega arith) (omega arith) (omega arith) (length a.out.now) _ _ _ _ _ _ _ _
    (challenge_3c_is k (omega arith) (omega arith)) c.build_initial_vector_v2_aes128-iv.ensures c.copy.ensures (cipher_key_is k (omega arith) (omega arith)) c.apply_aes128_ofb_parts.ensures.first_after c.apply_aes128_ofb_parts.auto.first
    c.apply_aes128_ofb_parts.ensures.second_after (mac_key_is k (omega arith) (omega arith)) c.calculate_mac_v2_aes128-wanted.ensures)
    (aes_accepting_meets _ _ _ _ _ c.accept_aes.ensures (omega (arith, length-take {A = ℕ})))
