use borrow.Author.Rules.{rules}
use lib.ListN.{length}
use Rattle.frame.proofs.Schemes.{responding_17}
use Rattle.frame.proofs.secure.build_secure_response_frame.Goals as goal

pub returns-in_err-try_from : goal.returns-in_err-try_from
returns-in_err-try_from c =
    let a = c.args in
    responding_17 a.scheme a.credentials.now a.id.now a.payload.now a.code a.number (length a.out.now) c.in_err-try_from.field-0.0 _ (search rules) c.in_err-try_from.ensures
