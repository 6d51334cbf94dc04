use mathlib.Core.Path.{refl}
use Rattle.session.proofs.Challenges.{encrypted}
use Rattle.session.proofs.v2_aes.AuthenticationContextV2Aes128.encrypt_challenge1b.Goals as goal

pub returns : goal.returns
returns c = encrypted _ _ _ _ _ c.beta_with_challenge_3c.ensures refl c.encrypt_aes128_block.ensures
