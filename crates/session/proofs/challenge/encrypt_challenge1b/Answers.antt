use mathlib.Core.Path.{◌∙◌}
use native.Mathlib.Omega.{arith}
use lib.Dec.{lit≤}
use borrow.Author.Rules.{rules}
use Rattle.session.specs.Challenge.{making_1b}
use Rattle.session.proofs.Challenges.{wrong_3c, wrong_before_3c, right_3c, gives_refused, gives, des_size, aes_size, des_under_beta, aes_under_beta}
use Rattle.session.proofs.challenge.encrypt_challenge1b.Goals as goal

pub returns-in_err-challenge_3c : goal.returns-in_err-challenge_3c
unfolding making_1b
returns-in_err-challenge_3c c =
    let e = c.in_err-challenge_3c.ensures in
    gives_refused _ _ _ _ (wrong_3c _ _ _ _ _ e.0) c.in_err-challenge_3c.field-0.0 _ (search rules) e.1

pub returns-in_err-context : goal.returns-in_err-context
unfolding making_1b
returns-in_err-context c =
    let e = c.in_err-context.ensures in
    gives_refused _ _ _ _ (wrong_before_3c _ _ _ _ _ e.0) c.in_err-context.field-0.0 _ (search rules) e.1

pub returns-in-Des : goal.returns-in-Des
unfolding making_1b
returns-in-Des c =
    let p = c.in_ok-context.ensures in
    gives _ _ _ _ (right_3c _ _ _ _ _ p.0 c.in_ok-challenge_3c.ensures.0) c.encrypt_challenge1b.result _ _ 8 (des_size _ _ _ _ _ p.1 _ _ c.in-Des.is) (omega (arith, c.encrypt_challenge1b.type_inv)) (lit≤ tt) (c.encrypt_challenge1b.ensures ∙ des_under_beta _ _ _ _ _ p.1 _ _ c.in-Des.is c.args.challenge_3c.now) c.deliver.ensures

pub returns-in-Aes128 : goal.returns-in-Aes128
unfolding making_1b
returns-in-Aes128 c =
    let p = c.in_ok-context.ensures in
    gives _ _ _ _ (right_3c _ _ _ _ _ p.0 c.in_ok-challenge_3c.ensures.0) c.encrypt_challenge1b-in-Aes128.result _ _ 16 (aes_size _ _ _ _ _ p.1 _ _ c.in-Aes128.is) (omega (arith, c.encrypt_challenge1b-in-Aes128.type_inv)) (lit≤ tt) (c.encrypt_challenge1b-in-Aes128.ensures ∙ aes_under_beta _ _ _ _ _ p.1 _ _ c.in-Aes128.is _ _ c.in_ok-challenge_3c.ensures.1) c.deliver-in-Aes128.ensures
