use borrow.Author.Rules.{rules}
use Rattle.session.proofs.SessionSteps.{steps_refused, steps_taken}
use Rattle.session.proofs.context.AuthenticatedContext.increment_transaction_number.Goals as goal

pub returns-in_err-stepped : goal.returns-in_err-stepped
returns-in_err-stepped c = steps_refused c.args.self.now c.in_err-stepped.field-0.0 c.in_err-stepped.ensures (search rules)

pub returns : goal.returns
returns c = steps_taken c.args.self.now c.numbered.result c.in_ok-stepped.stepped _ c.in_ok-stepped.ensures c.set_transaction_number.ensures c.numbered.ensures
