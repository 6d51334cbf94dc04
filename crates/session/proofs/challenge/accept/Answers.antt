use mathlib.Core.Path.{refl}
use Rattle.session.proofs.Challenges.{equal_accepted, unequal_refused}
use Rattle.session.proofs.challenge.accept.Goals as goal

pub returns-then-equal : goal.returns-then-equal
returns-then-equal c = equal_accepted _ _ c.if-equal.true _ refl c.sized.ensures

pub returns-else-equal : goal.returns-else-equal
returns-else-equal c = unequal_refused _ _ c.if-equal.false (refl, refl, refl, refl)
