use Rattle.session.specs.Challenge.{session_key_input}
use Rattle.session.proofs.v2_aes.SecureSessionKeys.derive.Goals as goal

pub returns : goal.returns
unfolding session_key_input
returns c = (c.encrypt_aes128_block.ensures, c.encrypt_aes128_block-2.ensures)
