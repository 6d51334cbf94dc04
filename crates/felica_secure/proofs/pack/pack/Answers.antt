use mathlib.Core.Path.{refl, sym}
use native.Mathlib.Omega.{arith}
use Rattle.felica_secure.specs.Packed.{packed, packed_sealed}
use Rattle.felica_secure.proofs.PackedParts.{packed_unpadded}
use Rattle.felica_secure.proofs.pack.pack.Goals as goal

pub overflow_add-result : goal.overflow_add-result
unfolding packed
overflow_add-result c = omega (arith, c.pack_all.ensures, c.from-padding.ensures)

pub returns-in-Ok : goal.returns-in-Ok
unfolding packed_sealed
returns-in-Ok c = rw (c.in-Ok.is, c.pack_all.ensures, c.from-padding.ensures) refl

pub returns-in-Err : goal.returns-in-Err
returns-in-Err c = rw (c.in-Err.is, c.pack_all-in-Err.ensures, c.number.ensures) (sym (packed_unpadded _ 0 0 0 0 refl))
