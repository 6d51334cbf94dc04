use mathlib.Core.Path.{refl}
use Rattle.session.specs.Session.{with_number}
use Rattle.session.proofs.context.AuthenticatedContext.set_transaction_number.Goals as goal

pub returns : goal.returns
unfolding with_number
returns c = refl
