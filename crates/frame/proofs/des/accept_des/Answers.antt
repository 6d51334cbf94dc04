use mathlib.Core.Path.{◌≡◌, ap, ◌∙◌}
use borrow.Author.Rules.{rules}
use lib.ListN.{length}
use Rattle.std.specs.Prelude.{Err}
use Rattle.answer.proofs.Rows.{err_delivers}
use Rattle.frame.proofs.DesOpens.{wrong_mac, right_mac}
use Rattle.frame.proofs.Responses.{parsed_delivers}
use Rattle.frame.proofs.des.accept_des.Goals as goal

pub returns-in_err-parse : goal.returns-in_err-parse
returns-in_err-parse c =
    let a = c.args in
    let h = c.in_err-parse.ensures in
    let r : c.from_residual.result ≡ Err c.in_err-parse.field-0.0 = search rules in
    rw (wrong_mac a.code (length a.out.now) a.id a.plain.now h.0) (err_delivers _ a.out.now (r ∙ ap Err h.1))

pub returns : goal.returns
returns c =
    let a = c.args in
    let h = c.in_ok-parse.ensures in
    rw (right_mac a.code (length a.out.now) a.id a.plain.now h.0) (parsed_delivers _ _ h.1 a.id a.out.now _ _ c.deliver.ensures)
