use Rattle.session.specs.Challenge.{making_2b, making_1a}
use Rattle.session.proofs.challenge.encrypt_challenge2b.Goals as goal

pub returns : goal.returns
unfolding making_2b making_1a
returns c = c.encrypt_challenge1a.ensures
