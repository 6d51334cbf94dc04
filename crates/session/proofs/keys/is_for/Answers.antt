use borrow.Author.Tests.{eq-eqb}
use Rattle.std.proofs.Common.{rules}
use Rattle.answer.specs.Tests.{both}
use Rattle.session.specs.Entries.{entry_of, is_for}
use Rattle.session.proofs.keys.is_for.Goals as goal

pub returns-then-from_le_bytes-node : goal.returns-then-from_le_bytes-node
unfolding is_for entry_of both
returns-then-from_le_bytes-node c = rw (← c.from_le_bytes.ensures, eq-eqb _ _ c.if-from_le_bytes-node.true)

pub returns-else-from_le_bytes-node : goal.returns-else-from_le_bytes-node
unfolding is_for entry_of both
returns-else-from_le_bytes-node c = search rules
