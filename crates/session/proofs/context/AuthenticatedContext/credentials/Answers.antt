use native.Mathlib.Omega.{arith}
use Rattle.session.specs.Session.{credentials_of}
use Rattle.session.proofs.SessionSteps.{credentials_most}
use Rattle.session.proofs.context.AuthenticatedContext.credentials.Goals as goal

pub shared_ref_as_front-result : goal.shared_ref_as_front-result
shared_ref_as_front-result c = omega (arith, c.credentials_size.ensures, credentials_most c.args.self.now.scheme)

pub returns : goal.returns
unfolding credentials_of
returns c = rw c.credentials_size.ensures
