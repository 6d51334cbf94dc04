use mathlib.Core.Path.{◌∙◌}
use native.Mathlib.Omega.{arith}
use lib.Dec.{lit≤}
use borrow.Author.Rules.{rules}
use Rattle.session.specs.Challenge.{making_1a}
use Rattle.session.proofs.Challenges.{gives_refused, gives, des_size, aes_size, des_under_alpha, aes_under_alpha}
use Rattle.session.proofs.challenge.encrypt_challenge1a.Goals as goal

pub returns-in_err-context : goal.returns-in_err-context
unfolding making_1a
returns-in_err-context c =
    let e = c.in_err-context.ensures in
    gives_refused _ _ _ _ e.0 c.in_err-context.field-0.0 _ (search rules) e.1

pub returns-in-Des : goal.returns-in-Des
unfolding making_1a
returns-in-Des c =
    let p = c.in_ok-context.ensures in
    gives _ _ _ _ p.0 c.encrypt_challenge1a.result _ _ 8 (des_size _ _ _ _ _ p.1 _ _ c.in-Des.is) (omega (arith, c.encrypt_challenge1a.type_inv)) (lit≤ tt) (c.encrypt_challenge1a.ensures ∙ des_under_alpha _ _ _ _ _ p.1 _ _ c.in-Des.is) c.deliver.ensures

pub returns-in-Aes128 : goal.returns-in-Aes128
unfolding making_1a
returns-in-Aes128 c =
    let p = c.in_ok-context.ensures in
    gives _ _ _ _ p.0 c.encrypt_challenge1a-in-Aes128.result _ _ 16 (aes_size _ _ _ _ _ p.1 _ _ c.in-Aes128.is) (omega (arith, c.encrypt_challenge1a-in-Aes128.type_inv)) (lit≤ tt) (c.encrypt_challenge1a-in-Aes128.ensures ∙ aes_under_alpha _ _ _ _ _ p.1 _ _ c.in-Aes128.is) c.deliver-in-Aes128.ensures
