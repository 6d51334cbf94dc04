use borrow.Author.Rules.{rules}
use borrow.Author.Tests.{eq-eqb, ne_eqb, lt-ltb, le-ltb}
use Rattle.answer.specs.Outcome.{choose, first_of}
use Rattle.answer.specs.Tests.{isnt, either}
use Rattle.frame.specs.DesFrame.{open_rows}
use Rattle.answer.proofs.Rows.{first_17, second_17}
use Rattle.frame.proofs.DesOpens.{open_not_checked}
use Rattle.frame.proofs.des.check_open_des.Goals as goal

pub returns-in_err-id : goal.returns-in_err-id
unfolding open_rows
returns-in_err-id c = open_not_checked _ _ _ c.in_err-id.field-0.0 (search rules) (first_17 _ _ 6 8 _ _ c.in_err-id.ensures)

pub returns-in_err-key : goal.returns-in_err-key
unfolding open_rows
returns-in_err-key c = open_not_checked _ _ _ c.in_err-key.field-0.0 (search rules) (second_17 _ _ 6 8 _ _ c.in_err-key.ensures)

pub returns-then-n-ne0 : goal.returns-then-n-ne0
unfolding open_rows first_of choose isnt either
returns-then-n-ne0 c = rw (eq-eqb _ _ c.in_ok-id.ensures.0, eq-eqb _ _ c.in_ok-key.ensures.0, ne_eqb _ _ c.if-n-ne0.true)

pub returns-then-n-lt16 : goal.returns-then-n-lt16
unfolding open_rows first_of choose isnt either
returns-then-n-lt16 c = rw (eq-eqb _ _ c.in_ok-id.ensures.0, eq-eqb _ _ c.in_ok-key.ensures.0, eq-eqb _ _ c.if-n-ne0.false, lt-ltb _ _ c.if-n-lt16.true)

pub returns-then-n-gt-SEALED_MAX : goal.returns-then-n-gt-SEALED_MAX
unfolding open_rows first_of choose isnt either
returns-then-n-gt-SEALED_MAX c =
    rw (eq-eqb _ _ c.in_ok-id.ensures.0, eq-eqb _ _ c.in_ok-key.ensures.0, eq-eqb _ _ c.if-n-ne0.false, le-ltb _ _ c.if-n-lt16.false, lt-ltb _ _ c.if-n-gt-SEALED_MAX.true)

pub returns : goal.returns
unfolding open_rows first_of choose isnt either
returns c =
    let i = c.in_ok-id.ensures in
    let k = c.in_ok-key.ensures in
    (rw (eq-eqb _ _ i.0, eq-eqb _ _ k.0, eq-eqb _ _ c.if-n-ne0.false, le-ltb _ _ c.if-n-lt16.false, le-ltb _ _ c.if-n-gt-SEALED_MAX.false), c.if-n-ne0.false, c.if-n-lt16.false, c.if-n-gt-SEALED_MAX.false, i.1, k.1)
