use mathlib.Core.Path.{◌∙◌}
use native.Mathlib.Omega.{arith}
use Rattle.frame.proofs.AesSeals.{mac_made}
use borrow.Author.Rules.{rules}
use Rattle.frame.proofs.v2_aes.calculate_mac_v2_aes128.Goals as goal

pub returns : goal.returns
returns c =
    let a = c.args in
    mac_made a.mac_key a.iv a.payload.now _ _ _ (omega arith) (c.copy_from_slice.ensures.after ∙ c.to_be_bytes.ensures) c.aes128_cmac_after_block-full.ensures (c.fit.ensures.1 (search rules))
