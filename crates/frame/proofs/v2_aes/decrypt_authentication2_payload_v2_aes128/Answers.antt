use Rattle.frame.specs.Authentication2.{auth2_opening_aes}
use Rattle.frame.proofs.v2_aes.decrypt_authentication2_payload_v2_aes128.Goals as goal

pub returns : goal.returns
unfolding auth2_opening_aes
returns c = c.decrypt_secure_response_v2_aes128.ensures
