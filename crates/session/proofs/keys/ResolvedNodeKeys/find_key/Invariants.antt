use Rattle.std.proofs.Common.{◌≡◌, drop, map}
use Rattle.session.specs.Entries.{entry_of}
use Rattle.session.proofs.Places.{Passed}
use Rattle.session.proofs.keys.ResolvedNodeKeys.find_key.Given as goal

abbrev pub invariant-loop-entry : goal.invariant-loop-entry
invariant-loop-entry l = (l.looked ≡ l.entry-index) × Passed l.node l.algorithm (map entry_of l.self.entries.now) l.looked (map entry_of (drop l.entry-index l.entry-items))
