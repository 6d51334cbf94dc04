use mathlib.Core.Path.{refl}
use native.Mathlib.Omega.{arith}
use Rattle.cipher.proofs.ByteLists.{Block}
use Rattle.agreement.proofs.Credentials.{keys_ok, keys_then_3c}
use Rattle.agreement.proofs.transcript.aes_credentials.Goals as goal

pub unwrap-requires : goal.unwrap-requires
unwrap-requires c = keys_ok _ _ _ _ (record { long = c.requires.random_2_len; bytes = λ j. omega (arith, c.type_inv.random_2 j) }) c.derive_secure_session_keys.ensures

pub returns : goal.returns
returns c =
    let g : Block 16 c.args.random_2.now = record { long = c.requires.random_2_len; bytes = λ j. omega (arith, c.type_inv.random_2 j) } in
    keys_then_3c c.args.random_2.now c.args.challenge_3c.now _ _ _ _ g c.requires.challenge_3c_len refl c.derive_secure_session_keys.ensures
    c.copy_from_slice.ensures.after
