use mathlib.Core.Path.{sym, ap}
use borrow.Author.Rules.{rules}
use borrow.Author.Tests.{eq-eqb, lt-ltb, le-ltb}
use lib.ListN.{length}
use Rattle.answer.specs.Outcome.{choose, first_of}
use Rattle.answer.specs.Refusal.{refusal_number}
use Rattle.answer.specs.Tests.{isnt, either}
use Rattle.answer.proofs.Rows.{first_17, second_17}
use Rattle.frame.specs.AesFrame.{aes_seal_rows}
use Rattle.frame.proofs.AesSeals.{aes_not_checked}
use Rattle.frame.proofs.v2_aes.check_aes.Goals as goal

pub returns-in_err-id : goal.returns-in_err-id
unfolding aes_seal_rows
returns-in_err-id c = aes_not_checked _ _ _ c.in_err-id.field-0.0 (search rules) (first_17 _ _ 6 36 _ _ c.in_err-id.ensures)

pub returns-in_err-check : goal.returns-in_err-check
unfolding aes_seal_rows
returns-in_err-check c = aes_not_checked _ _ _ c.in_err-check.field-0.0 (search rules) (second_17 _ _ 6 36 _ _ c.in_err-check.ensures)

pub returns-in_err-size_aes : goal.returns-in_err-size_aes
unfolding aes_seal_rows first_of choose isnt either
returns-in_err-size_aes c =
    let a = c.args in
    let h = c.in_err-size_aes.ensures in
    aes_not_checked a.id.now a.credentials.now (length a.payload.now) c.in_err-size_aes.field-0.0 (search rules) (rw (eq-eqb _ _ c.in_ok-id.ensures.0, eq-eqb _ _ c.in_ok-check.ensures, lt-ltb _ _ h.0) (ap refusal_number (sym h.1)))

pub returns : goal.returns
unfolding aes_seal_rows first_of choose isnt either
returns c =
    let i = c.in_ok-id.ensures in
    let k = c.in_ok-check.ensures in
    let s = c.in_ok-size_aes.ensures in
    (rw (eq-eqb _ _ i.0, eq-eqb _ _ k, le-ltb _ _ s.0), s.0, i.1, c.parse.ensures)
