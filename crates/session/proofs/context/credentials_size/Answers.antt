use borrow.Author.Tests.{eq-eqb, ne_eqb}
use Rattle.answer.specs.Outcome.{choose}
use Rattle.session.specs.Session.{credentials_size}
use Rattle.session.proofs.context.credentials_size.Goals as goal

pub returns-then-scheme-eq-DES : goal.returns-then-scheme-eq-DES
unfolding credentials_size choose
returns-then-scheme-eq-DES c = rw (eq-eqb _ 1 c.if-scheme-eq-DES.true)

pub returns-else-scheme-eq-DES : goal.returns-else-scheme-eq-DES
unfolding credentials_size choose
returns-else-scheme-eq-DES c = rw (ne_eqb _ 1 c.if-scheme-eq-DES.false)
