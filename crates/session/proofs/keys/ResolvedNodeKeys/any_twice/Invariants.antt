use Rattle.std.proofs.Common.{◌≡◌, length, map}
use Rattle.session.specs.Entries.{entry_of, twice}
use Rattle.session.proofs.keys.ResolvedNodeKeys.any_twice.Given as goal

abbrev pub invariant-loop-entry : goal.invariant-loop-entry
invariant-loop-entry l = twice (map entry_of l.rest) ≡ twice (map entry_of l.self.entries.now)

abbrev pub decreases-loop-entry : goal.decreases-loop-entry
decreases-loop-entry l = length l.rest
