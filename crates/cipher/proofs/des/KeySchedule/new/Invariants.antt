use Rattle.cipher.specs.Bits.{to_bits}
use Rattle.cipher.specs.Fips46.{KS}
use Rattle.cipher.proofs.DesKeys.{Keys}
use Rattle.cipher.proofs.des.KeySchedule.new.Given as goal

-- the keys that are made, with those that the halves still give, are all of them
abbrev pub invariant-loop-i : goal.invariant-loop-i
invariant-loop-i l = Keys (KS (to_bits l.fn.key)) l.halves.c l.halves.d l.round_key-items l.i
