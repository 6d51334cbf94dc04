use borrow.Author.Rules.{rules}
use Rattle.session.proofs.Challenges.{refused_compares}
use Rattle.session.proofs.challenge.verify_challenge2b.Goals as goal

pub returns-in_err-is_challenge2b : goal.returns-in_err-is_challenge2b
returns-in_err-is_challenge2b c = refused_compares _ _ c.in_err-is_challenge2b.field-0.0 (search rules) c.in_err-is_challenge2b.ensures
