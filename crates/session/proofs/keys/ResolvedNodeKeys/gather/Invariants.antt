use Rattle.std.proofs.Common.{◌+◌, ◌*◌, ◌≤◌, length, map}
use Rattle.answer.specs.Scheme.{mark_of}
use Rattle.session.specs.Entries.{entry_of}
use Rattle.session.proofs.Gathering.{Gathered}
use Rattle.session.proofs.keys.ResolvedNodeKeys.gather.Given as goal

abbrev pub invariant-loop-node : goal.invariant-loop-node
invariant-loop-node g l = record {
  can : (goal.iterator-loop-node g).can_next l.node-iterator;
  finite : (goal.iterator-loop-node g).is_finite l.node-iterator;
  room : l.end + (goal.iterator-loop-node g).remaining l.node-iterator * 16 ≤ length l.work;
  gathered : Gathered (map entry_of l.self.entries.now) (mark_of l.scheme) l.yielded l.end l.work;
}
