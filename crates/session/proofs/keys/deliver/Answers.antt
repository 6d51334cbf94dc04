use Rattle.std.proofs.Common.{◌≤◌, ◌≡◌, ◌-◌, ◌+◌, ◌++◌, length, refl, arith}
use lib.ListN.{length-append}
use Prim.Native.Nat.{ℕ}
use Rattle.answer.proofs.Outputs.{copied_over}
use Rattle.answer.proofs.Pieces.{copied_next}
use Rattle.session.proofs.DerivationSteps.{short_derives, delivery_derives}
use Rattle.session.proofs.keys.deliver.Goals as goal

pub returns-then-out-size : goal.returns-then-out-size
returns-then-out-size c =
    let a = c.args in
    short_derives a.scheme (a.first.now ++ a.second.now) a.out.now (omega (arith, length-append {A = ℕ}))

pub returns : goal.returns
returns c =
    let a = c.args in
    let x = a.first.now in
    let y = a.second.now in
    let o = a.out.now in
    let g : length x ≤ length o = omega arith in
    let k : length y ≡ length x + length y - length x = omega arith in
    let m : length x + (length x + length y - length x) ≤ length o = omega arith in
    delivery_derives a.scheme (x ++ y) o _ _ (omega (arith, length-append {A = ℕ})) (omega (arith, length-append {A = ℕ}))
    (copied_next x o _ (length x) _ refl m (copied_over x o _ g c.copy.ensures) y _ k c.copy-2.ensures)
