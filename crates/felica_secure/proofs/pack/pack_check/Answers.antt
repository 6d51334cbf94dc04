use native.Mathlib.Omega.{arith}
use Rattle.felica_secure.specs.Packed.{packed}
use Rattle.felica_secure.proofs.PackedParts.{unequal_13}
use Rattle.felica_secure.proofs.pack.pack_check.Goals as goal

pub returns-in-Ok : goal.returns-in-Ok
returns-in-Ok c = rw (c.in-Ok.is, c.from.ensures, c.from-in-Ok.ensures, c.number.ensures) (unequal_13 c.in-Ok.equal)

pub returns-in-Err : goal.returns-in-Err
unfolding packed
returns-in-Err c = rw (c.in-Err.is, c.pack_all.ensures, c.number-in-Err.ensures) (omega arith)
