use mathlib.Core.Path.{◌≡◌, refl, sym, ap, ◌∙◌}
use Prim.Native.Nat.{ℕ}
use borrow.Author.Rules.{rules}
use mathlib.Core.List.{List}
use lib.ListN.{length, take, replicate}
use Rattle.answer.specs.Tests.{both}
use Rattle.frame.specs.DesFrame.{des_plain, open_rows}
use Rattle.answer.proofs.Rows.{numbered, first_passes, passed_meets}
use Rattle.answer.proofs.Outputs.{front}
use Rattle.answer.proofs.Pieces.{no_longer}
use native.Mathlib.Omega.{arith}
use Rattle.frame.proofs.DesOpens.{open_steps, open_refused, accepting_meets}
use Rattle.frame.proofs.des.decrypt_secure_response_des.Goals as goal

pub returns-in_err-id : goal.returns-in_err-id
returns-in_err-id c =
    let a = c.args in
    open_refused a.key.now a.id.now a.«data».now a.code (length a.out.now) c.in_err-id.field-0.0 a.out.now (search rules) c.in_err-id.ensures

pub decrypt_over-requires-clause-data_len : goal.decrypt_over-requires-clause-data_len
decrypt_over-requires-clause-data_len c = c.in_ok-id.ensures.1

pub returns : goal.returns
unfolding numbered both open_rows
returns c =
    let a = c.args in
    let d = a.«data».now in
    let h = c.in_ok-id.ensures in
    let p : take (length d) c.decrypt_over.new.work ≡ des_plain a.key.now d =
    front (des_plain c.in_ok-id.key d) (replicate 256 0) c.decrypt_over.new.work (length d) c.decrypt_over.ensures.0 c.decrypt_over.ensures.1 ∙ ap (λ (k : List ℕ). des_plain k d) h.5 in
    rw (open_steps a.key.now a.id.now d a.code (length a.out.now))
    (passed_meets _ _ _ a.out.now _ (first_passes (open_rows (length a.id.now) (length a.key.now) (length d)) 0 refl (sym h.0) refl)
    (accepting_meets a.code a.id.now (des_plain a.key.now d) (length a.out.now) (rw p at (rw h.4 at c.accept_des.ensures)) (no_longer (length d) 65535 c.decrypt_over.new.work _ (sym p) (omega arith))))
