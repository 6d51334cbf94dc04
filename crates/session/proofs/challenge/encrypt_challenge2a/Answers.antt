use Rattle.session.specs.Challenge.{making_2a, making_1b}
use Rattle.session.proofs.challenge.encrypt_challenge2a.Goals as goal

pub returns : goal.returns
unfolding making_2a making_1b
returns c = c.encrypt_challenge1b.ensures
