use Rattle.std.proofs.Common.{◌∙◌, ◌%◌, rules, tests}
use borrow.Author.Tests.{eq-eqb}
use Rattle.answer.specs.Tests.{both}
use Rattle.session.specs.ServiceCode.{key_free}
use Rattle.session.proofs.NodeLists.{in_range}
use Rattle.session.proofs.types.is_key_free_service.Goals as goal

pub returns-then-attributes-eq1 : goal.returns-then-attributes-eq1
unfolding key_free both
returns-then-attributes-eq1 c = rw (eq-eqb _ _ c.if-attributes-eq1.true) (c.contains.ensures.value ∙ in_range (c.args.service % 64))

pub returns-else-attributes-eq1 : goal.returns-else-attributes-eq1
unfolding key_free both
returns-else-attributes-eq1 c = search (tests, rules)
