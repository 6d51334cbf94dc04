use Rattle.std.proofs.Common.{rules}
use Rattle.answer.specs.Outcome.{choose}
use Rattle.session.specs.Derivation.{key_length}
use Rattle.session.proofs.keys.key_length.Goals as goal

pub returns-in-Des : goal.returns-in-Des
unfolding key_length choose
returns-in-Des c = search rules

pub returns-in-Aes128 : goal.returns-in-Aes128
unfolding key_length choose
returns-in-Aes128 c = search rules
