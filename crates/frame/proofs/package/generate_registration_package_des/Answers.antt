use mathlib.Core.Path.{◌≡◌, refl, ap, ◌∙◌}
use Prim.Native.Nat.{ℕ}
use borrow.Author.Rules.{rules}
use mathlib.Core.List.{List}
use lib.ListN.{length}
use Rattle.answer.specs.Outcome.{over}
use Rattle.frame.specs.Package.{package_rows, packaged, packaging}
use Rattle.answer.proofs.Rows.{one_17, row_meets, passed_meets, accepted_meets}
use Rattle.frame.proofs.RegistrationPackage.{package_none, empty_10, blocks_10, long_12, room_16}
use Rattle.frame.proofs.package.generate_registration_package_des.Goals.{then-n-eq0-via-then-n-eq0, then-n-eq0-via-else-n-eq0+then-n-ne0}
use Rattle.frame.proofs.package.generate_registration_package_des.Goals as goal

pub returns-in_err-key : goal.returns-in_err-key
unfolding packaging package_rows
returns-in_err-key c = row_meets _ _ c.in_err-key.field-0.0 c.args.out.now (search rules) (one_17 _ 8 _ _ c.in_err-key.ensures)

pub returns-then-n-eq0 : goal.returns-then-n-eq0
unfolding packaging
returns-then-n-eq0 c =
    let a = c.args in
    row_meets (package_rows (length a.key.now) (length a.plain.now) (length a.out.now)) _ _ a.out.now refl (elim c.then-n-eq0.branch [
      | then-n-eq0-via-then-n-eq0 w ↦ empty_10 _ _ _ c.in_ok-key.ensures.0 w.if-n-eq0.true
      | then-n-eq0-via-else-n-eq0+then-n-ne0 w ↦ blocks_10 _ _ _ c.in_ok-key.ensures.0 w.if-n-eq0.false w.if-n-ne0.true
    ])

pub returns-then-n-gt-PACKAGE_MAX : goal.returns-then-n-gt-PACKAGE_MAX
unfolding packaging
returns-then-n-gt-PACKAGE_MAX c = row_meets _ _ _ c.args.out.now refl (long_12 _ _ _ c.in_ok-key.ensures.0 c.if-n-eq0.false c.if-n-ne0.false c.if-n-gt-PACKAGE_MAX.true)

pub returns-then-out-n : goal.returns-then-out-n
unfolding packaging
returns-then-out-n c = row_meets _ _ _ c.args.out.now refl (room_16 _ _ _ c.in_ok-key.ensures.0 c.if-n-eq0.false c.if-n-ne0.false c.if-n-gt-PACKAGE_MAX.false c.if-out-n.true)

pub returns : goal.returns
unfolding packaging
returns c =
    let a = c.args in
    let p = a.plain.now in
    let o = a.out.now in
    let k = c.in_ok-key.ensures in
    let w = c.write_package-length.ensures in
    let b : packaged c.in_ok-key.key p ≡ packaged a.key.now p = ap (λ (k : List ℕ). packaged k p) k.1 in
    passed_meets _ _ _ o _ (package_none (length a.key.now) (length p) (length o) k.0 c.if-n-eq0.false c.if-n-ne0.false c.if-n-gt-PACKAGE_MAX.false c.if-out-n.false)
    (accepted_meets 0 _ _ o _ refl (c.sized.ensures.0 ∙ w.1 ∙ ap length b) c.sized.ensures.1 c.sized.ensures.2 (w.2 ∙ ap (λ (l : List ℕ). over l o) b))
