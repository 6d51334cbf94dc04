use mathlib.Core.Path.{refl, sym, ap}
use borrow.Author.Rules.{rules}
use borrow.Author.Tests.{eq-eqb, lt-ltb, le-ltb}
use lib.ListN.{length}
use Rattle.answer.specs.Outcome.{choose, first_of}
use Rattle.answer.specs.Refusal.{refusal_number}
use Rattle.answer.specs.Tests.{isnt, either}
use Rattle.answer.proofs.Rows.{first_17, second_17}
use Rattle.frame.specs.DesFrame.{seal_rows}
use Rattle.frame.proofs.DesSeals.{not_checked}
use Rattle.frame.proofs.des.check_des.Goals as goal

pub returns-in_err-exact : goal.returns-in_err-exact
unfolding seal_rows
returns-in_err-exact c = not_checked _ _ _ _ c.in_err-exact.field-0.0 (search rules) (first_17 _ _ 6 8 _ _ c.in_err-exact.ensures)

pub returns-in_err-key : goal.returns-in_err-key
unfolding seal_rows
returns-in_err-key c = not_checked _ _ _ _ c.in_err-key.field-0.0 (search rules) (second_17 _ _ 6 8 _ _ c.in_err-key.ensures)

pub returns-in_err-size_des : goal.returns-in_err-size_des
unfolding seal_rows first_of choose isnt either
returns-in_err-size_des c =
    let a = c.args in
    let h = c.in_err-size_des.ensures in
    not_checked a.number a.id.now a.key.now (length a.payload.now) c.in_err-size_des.field-0.0 (search rules) (rw (eq-eqb _ _ c.in_ok-exact.ensures.0, eq-eqb _ _ c.in_ok-key.ensures.0, lt-ltb _ _ h.0) (ap refusal_number (sym h.1)))

pub returns : goal.returns
unfolding seal_rows first_of choose isnt either
returns c =
    let i = c.in_ok-exact.ensures in
    let k = c.in_ok-key.ensures in
    let s = c.in_ok-size_des.ensures in
    (rw (eq-eqb _ _ i.0, eq-eqb _ _ k.0, le-ltb _ _ s.0), s.0, refl, i.1, k.1)
