use mathlib.Core.Path.{ap, sym, ◌∙◌}
use borrow.Author.Rules.{rules}
use Rattle.answer.specs.Scheme.{mark_of}
use Rattle.frame.specs.Scheme.{opening}
use Rattle.frame.proofs.Schemes.{mark_des, mark_aes, mark_17}
use Rattle.frame.proofs.secure.decrypt_response.Goals as goal

pub returns-in_err-try_from : goal.returns-in_err-try_from
unfolding opening
returns-in_err-try_from c = mark_17 _ _ _ c.in_err-try_from.field-0.0 _ (search rules) c.in_err-try_from.ensures

pub returns-in-Des : goal.returns-in-Des
unfolding opening
returns-in-Des c = rw (mark_des _ _ _ (sym c.in_ok-try_from.ensures ∙ ap mark_of c.in-Des.is)) c.decrypt_secure_response_des.ensures

pub returns-in-Aes128 : goal.returns-in-Aes128
unfolding opening
returns-in-Aes128 c = rw (mark_aes _ _ _ (sym c.in_ok-try_from.ensures ∙ ap mark_of c.in-Aes128.is)) c.decrypt_secure_response_v2_aes128.ensures
