use mathlib.Core.Path.{ap, sym, ◌∙◌}
use borrow.Author.Rules.{rules}
use Rattle.answer.specs.Scheme.{mark_of}
use Rattle.frame.specs.Scheme.{sealing}
use Rattle.frame.proofs.Schemes.{mark_des, mark_aes, mark_17}
use Rattle.frame.proofs.secure.encrypt_command.Goals as goal

pub returns-in_err-try_from : goal.returns-in_err-try_from
unfolding sealing
returns-in_err-try_from c = mark_17 _ _ _ c.in_err-try_from.field-0.0 _ (search rules) c.in_err-try_from.ensures

pub returns-in-Des : goal.returns-in-Des
unfolding sealing
returns-in-Des c = rw (mark_des _ _ _ (sym c.in_ok-try_from.ensures ∙ ap mark_of c.in-Des.is)) c.encrypt_secure_request_des.ensures

pub returns-in-Aes128 : goal.returns-in-Aes128
unfolding sealing
returns-in-Aes128 c = rw (mark_aes _ _ _ (sym c.in_ok-try_from.ensures ∙ ap mark_of c.in-Aes128.is)) c.encrypt_secure_request_v2_aes128.ensures
