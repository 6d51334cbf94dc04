use borrow.Author.Rules.{rules}
use borrow.Author.Tests.{eq-eqb, le-ltb}
use Rattle.answer.specs.Outcome.{choose, first_of}
use Rattle.answer.specs.Tests.{isnt, either}
use Rattle.answer.proofs.Rows.{first_17, second_17}
use Rattle.frame.specs.AesFrame.{aes_open_rows}
use Rattle.frame.proofs.AesOpens.{aes_open_not_checked, aes_open_split}
use Rattle.frame.proofs.v2_aes.check_open_aes.Goals as goal

pub returns-in_err-id : goal.returns-in_err-id
unfolding aes_open_rows
returns-in_err-id c = aes_open_not_checked _ _ _ 0 0 c.in_err-id.field-0.0 (search rules) (first_17 _ _ 6 36 _ _ c.in_err-id.ensures)

pub returns-in_err-check : goal.returns-in_err-check
unfolding aes_open_rows
returns-in_err-check c = aes_open_not_checked _ _ _ 0 0 c.in_err-check.field-0.0 (search rules) (second_17 _ _ 6 36 _ _ c.in_err-check.ensures)

pub returns-in_err-number : goal.returns-in_err-number
returns-in_err-number c =
    let a = c.args in
    aes_open_not_checked a.credentials.now a.id.now a.«data».now 0 0 c.in_err-number.field-0.0 (search rules) (aes_open_split a.credentials.now a.id.now a.«data».now 0 0 _ c.in_ok-id.ensures.0 c.in_ok-check.ensures c.in_err-number.ensures)

pub returns : goal.returns
unfolding aes_open_rows first_of choose isnt either
returns c =
    let i = c.in_ok-id.ensures in
    let k = c.in_ok-check.ensures in
    let s = c.in_ok-number.ensures in
    (rw (eq-eqb _ _ i.0, eq-eqb _ _ k, le-ltb _ _ s.0, le-ltb _ _ s.1), i.0, k, s.0, s.1, i.1, s.2)
