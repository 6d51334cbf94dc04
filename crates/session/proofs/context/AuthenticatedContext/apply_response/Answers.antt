use Rattle.session.proofs.SessionSteps.{receives_refused, receives_accepted, receiving_unpadded}
use Rattle.session.proofs.context.AuthenticatedContext.apply_response.Goals as goal

pub returns-in-Ok : goal.returns-in-Ok
returns-in-Ok c = receives_accepted c.args.self.now _ _ _ _ c.in-Ok.accepted c.in-Ok.ensures (receiving_unpadded _ _ _ _) c.set_transaction_number.ensures

pub returns-in-Err : goal.returns-in-Err
returns-in-Err c = receives_refused c.args.self.now _ _ _ _ c.in-Err.refusal c.in-Err.ensures c.count_turned_away.ensures
