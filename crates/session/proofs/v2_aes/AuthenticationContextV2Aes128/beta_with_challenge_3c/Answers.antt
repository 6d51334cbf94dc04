use native.Mathlib.Omega.{arith}
use Rattle.session.proofs.Challenges.{with_mask}
use Rattle.session.proofs.v2_aes.AuthenticationContextV2Aes128.beta_with_challenge_3c.Goals as goal

pub returns : goal.returns
returns c =
    let g = c.well_formed in
    with_mask _ _ _ _ (omega (arith, g)) c.fit.ensures.0 c.xor_blocks.ensures
