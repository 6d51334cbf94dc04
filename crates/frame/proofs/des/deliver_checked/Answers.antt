use mathlib.Core.Path.{refl, sym, ◌∙◌}
use lib.ListN.{length}
use Rattle.answer.proofs.Rows.{err_delivers}
use Rattle.frame.proofs.DesOpens.{wrong_id, right_id}
use Rattle.answer.proofs.Equality.{same_is}
use Rattle.frame.proofs.des.deliver_checked.Goals as goal

pub returns-then-not-same_id : goal.returns-then-not-same_id
returns-then-not-same_id c =
    let a = c.args in
    rw (wrong_id a.head.transaction_number (length a.out.now) a.head.transaction_id a.payload.now a.id (sym (same_is _ _ _ c.same_id.ensures) ∙ c.if-not-same_id.true)) (err_delivers _ a.out.now refl)

pub returns : goal.returns
returns c =
    let a = c.args in
    rw (right_id a.head.transaction_number (length a.out.now) a.head.transaction_id a.payload.now a.id (sym (same_is _ _ _ c.same_id.ensures) ∙ c.if-not-same_id.false)) c.deliver.ensures
