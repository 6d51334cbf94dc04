use mathlib.Core.Path.{◌≡◌, refl, sym, ap, ◌∙◌}
use Prim.Native.Nat.{ℕ}
use borrow.Author.Rules.{rules}
use borrow.Author.Tests.{eq-eqb, ne_eqb, lt-ltb}
use mathlib.Core.List.{List}
use lib.ListN.{length, take, replicate}
use Rattle.answer.specs.Outcome.{choose, first_of}
use Rattle.answer.specs.Tests.{isnt}
use Rattle.frame.specs.Authentication2.{auth2_open_rows, auth2_opening}
use Rattle.frame.specs.DesFrame.{des_plain}
use Rattle.frame.proofs.Authentications.{auth2_open_none, auth2_accepting_meets}
use Rattle.answer.proofs.Rows.{one_17, row_meets, passed_meets}
use Rattle.answer.proofs.Outputs.{front}
use Rattle.answer.proofs.Pieces.{no_longer}
use native.Mathlib.Omega.{arith}
use Rattle.frame.proofs.des.decrypt_authentication2_payload.Goals as goal

pub returns-in_err-key : goal.returns-in_err-key
unfolding auth2_opening auth2_open_rows
returns-in_err-key c = row_meets _ _ c.in_err-key.field-0.0 c.args.out.now (search rules) (one_17 _ 8 _ _ c.in_err-key.ensures)

pub returns-then-n-ne0 : goal.returns-then-n-ne0
unfolding auth2_opening auth2_open_rows first_of choose isnt
returns-then-n-ne0 c =
    row_meets (auth2_open_rows (length c.args.key.now) (length c.args.«data».now)) _ _ c.args.out.now refl (rw (eq-eqb _ _ c.in_ok-key.ensures.0, ne_eqb _ _ c.if-n-ne0.true))

pub returns-then-n-gt-SEALED_MAX : goal.returns-then-n-gt-SEALED_MAX
unfolding auth2_opening auth2_open_rows first_of choose isnt
returns-then-n-gt-SEALED_MAX c =
    row_meets (auth2_open_rows (length c.args.key.now) (length c.args.«data».now)) _ _ c.args.out.now refl (rw (eq-eqb _ _ c.in_ok-key.ensures.0, eq-eqb _ _ c.if-n-ne0.false, lt-ltb _ _ c.if-n-gt-SEALED_MAX.true))

pub returns : goal.returns
unfolding auth2_opening
returns c =
    let a = c.args in
    let d = a.«data».now in
    let k = c.in_ok-key.ensures in
    let p : take (length d) c.decrypt_over.new.work ≡ des_plain a.key.now d =
    front (des_plain c.in_ok-key.key d) (replicate 256 0) c.decrypt_over.new.work (length d) c.decrypt_over.ensures.0 c.decrypt_over.ensures.1 ∙ ap (λ (k : List ℕ). des_plain k d) k.1 in
    passed_meets _ _ _ a.out.now _ (auth2_open_none (length a.key.now) (length d) k.0 c.if-n-ne0.false c.if-n-gt-SEALED_MAX.false) (auth2_accepting_meets (des_plain a.key.now d) (length a.out.now) (rw p at c.accept_authentication2.ensures) (no_longer (length d) 65535 c.decrypt_over.new.work _ (sym p) (omega arith)))
