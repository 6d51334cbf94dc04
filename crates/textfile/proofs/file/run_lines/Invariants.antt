-- The counts so far are counts.
use Rattle.textfile.specs.Table.{AreCounts}
use Rattle.textfile.proofs.file.run_lines.Given as goal

abbrev pub invariant-loop-number : goal.invariant-loop-number
invariant-loop-number g l = AreCounts l.own
