use Rattle.std.proofs.Common.{rules}
use Rattle.answer.specs.Outcome.{choose}
use Rattle.session.specs.Derivation.{other}
use Rattle.session.proofs.keys.other_scheme.Goals as goal

pub returns-in-Des : goal.returns-in-Des
unfolding other choose
returns-in-Des c = search rules

pub returns-in-Aes128 : goal.returns-in-Aes128
unfolding other choose
returns-in-Aes128 c = search rules
