-- From no document: counts of cases.
use Rattle.std.specs.Prelude.{◌+◌, ◌-◌, ◌^◌, ◌≤◌, min}
use Rattle.textfile.specs.declared.table.Tally.{Tally}
use Rattle.textfile.specs.declared.table.Verdict.{Verdict}
use Rattle.textfile.specs.declared.table.Verdict.TheVariants.{Agrees, Departs, Differs}

-- the counts of no case
abbrev pub no_cases : Tally
no_cases = record { ran = 0; agreed = 0; departed = 0 }

-- the counts of one case
abbrev pub counts_of : Verdict → Tally
counts_of Agrees = record { ran = 1; agreed = 1; departed = 0 }
counts_of Departs = record { ran = 1; agreed = 1; departed = 1 }
counts_of Differs = record { ran = 1; agreed = 0; departed = 0 }

-- two counts added up, each to at most 2 ^ 64 - 1
abbrev pub sum_of : Tally → Tally → Tally
sum_of a b = record {
  ran = min (a.ran + b.ran) (2 ^ 64 - 1);
  agreed = min (a.agreed + b.agreed) (2 ^ 64 - 1);
  departed = min (a.departed + b.departed) (2 ^ 64 - 1);
}

-- what agreed ran, and what departed agreed
abbrev pub AreCounts : Tally → Type 0
AreCounts t = (t.agreed ≤ t.ran) × (t.departed ≤ t.agreed)
