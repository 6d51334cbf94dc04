use Rattle.session.proofs.SessionSteps.{step_refused, step_taken}
use Rattle.session.proofs.context.AuthenticatedContext.step.Goals as goal

pub returns-then-ceiling-self : goal.returns-then-ceiling-self
returns-then-ceiling-self c = step_refused c.args.self c.if-ceiling-self.true

pub returns : goal.returns
returns c = rw c.with_transaction_number.ensures (step_taken c.args.self c.if-ceiling-self.false)
