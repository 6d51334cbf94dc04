use mathlib.Core.Path.{ap}
use Prim.Native.Nat.{ℕ, ◌-◌}
use native.Mathlib.Omega.{arith}
use lib.ListN.{length, take}
use Rattle.frame.specs.Trimmed.{trim}
use Rattle.frame.proofs.Trims.{trim_count_within}
use Rattle.frame.proofs.des.trim_payload.Goals as goal

pub overflow_sub-end : goal.overflow_sub-end
overflow_sub-end c = omega (arith, trim_count_within c.args.payload.now, c.trim_count.ensures)

pub returns : goal.returns
unfolding trim
returns c = ap (λ (k : ℕ). take (length c.args.payload.now - k) c.args.payload.now) c.trim_count.ensures
