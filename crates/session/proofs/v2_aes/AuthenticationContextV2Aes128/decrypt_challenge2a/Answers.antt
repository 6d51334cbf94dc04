use Rattle.session.proofs.Challenges.{decrypted}
use Rattle.session.proofs.v2_aes.AuthenticationContextV2Aes128.decrypt_challenge2a.Goals as goal

pub returns : goal.returns
returns c = decrypted _ _ _ _ c.beta_with_challenge_3c.ensures c.decrypt_aes128_block.ensures
