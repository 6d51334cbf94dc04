use Prim.Native.Nat.{ℕ}
use lib.ListN.{length-replicate}
use Rattle.answer.proofs.Fits.{read}
use Rattle.answer.proofs.fixed.fit.Goals as goal

pub returns : goal.returns
returns g c = read g.row.N c.args.s.now _ (rw (length-replicate {A = ℕ} g.row.N 0) at c.copy.ensures)
