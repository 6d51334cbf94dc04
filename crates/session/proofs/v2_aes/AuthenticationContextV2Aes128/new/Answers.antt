use Rattle.session.proofs.Challenges.{encrypted}
use Rattle.session.proofs.v2_aes.AuthenticationContextV2Aes128.new.Goals as goal

pub returns : goal.returns
returns c =
    (encrypted _ _ _ _ _ c.xor_blocks-h.ensures c.build_authentication_context_block_v2_aes128-first.ensures c.encrypt_aes128_block-alpha.ensures, encrypted _ _ _ _ _ c.xor_blocks-h.ensures c.build_authentication_context_block_v2_aes128-second.ensures c.encrypt_aes128_block-beta.ensures)
