use mathlib.Core.Path.{refl}
use borrow.Author.Rules.{rules}
use lib.ListN.{length}
use Rattle.std.specs.Prelude.{◌≢◌, Err}
use Rattle.answer.specs.declared.refusal.Refusal.TheVariants.{BadMarkOrLength}
use Rattle.session.specs.Challenge.{checking_2b}
use Rattle.session.proofs.Challenges.{unequal_wrong, not_compared, compares, either_first, given_wrong, given_right, des_size, aes_size, des_under_alpha, aes_under_alpha}
use Rattle.session.proofs.challenge.is_challenge2b.Goals as goal

pub returns-then-challenge_2b-random_2 : goal.returns-then-challenge_2b-random_2
unfolding checking_2b
returns-then-challenge_2b-random_2 c =
    let other : length c.args.challenge_2b.now ≢ length c.args.random_2.now = search rules in
    not_compared _ _ _ (unequal_wrong _ _ _ _ _ other) BadMarkOrLength (Err BadMarkOrLength) refl refl

pub returns-in_err-context : goal.returns-in_err-context
unfolding checking_2b
returns-in_err-context c =
    let e = c.in_err-context.ensures in
    not_compared _ _ _ (either_first _ _ e.0) c.in_err-context.field-0.0 _ (search rules) e.1

pub returns-in_err-challenge-in-Des : goal.returns-in_err-challenge-in-Des
unfolding checking_2b
returns-in_err-challenge-in-Des c =
    let p = c.in_ok-context.ensures in
    let e = c.in_err-challenge-in-Des.ensures in
    not_compared _ _ _ (given_wrong _ _ _ 8 (des_size _ _ _ _ _ p.1 _ _ c.in-Des.is) e.0) c.in_err-challenge-in-Des.field-0.0 _ (search rules) e.1

pub returns-in_ok-challenge-in-Des : goal.returns-in_ok-challenge-in-Des
unfolding checking_2b
returns-in_ok-challenge-in-Des c =
    let p = c.in_ok-context.ensures in
    let e = c.in_ok-challenge-in-Des.ensures in
    compares _ _ _ (given_right _ _ _ 8 (des_size _ _ _ _ _ p.1 _ _ c.in-Des.is) p.0 e.0) _ _ _ c.verify_challenge2b.ensures e.1 (des_under_alpha _ _ _ _ _ p.1 _ _ c.in-Des.is)

pub returns-in_err-challenge-in-Aes128 : goal.returns-in_err-challenge-in-Aes128
unfolding checking_2b
returns-in_err-challenge-in-Aes128 c =
    let p = c.in_ok-context.ensures in
    let e = c.in_err-challenge-in-Aes128.ensures in
    not_compared _ _ _ (given_wrong _ _ _ 16 (aes_size _ _ _ _ _ p.1 _ _ c.in-Aes128.is) e.0) c.in_err-challenge-in-Aes128.field-0.0 _ (search rules) e.1

pub returns-in_ok-challenge-in-Aes128 : goal.returns-in_ok-challenge-in-Aes128
unfolding checking_2b
returns-in_ok-challenge-in-Aes128 c =
    let p = c.in_ok-context.ensures in
    let e = c.in_ok-challenge-in-Aes128.ensures in
    compares _ _ _ (given_right _ _ _ 16 (aes_size _ _ _ _ _ p.1 _ _ c.in-Aes128.is) p.0 e.0) _ _ _ c.verify_challenge2b-in-Aes128.ensures e.1 (aes_under_alpha _ _ _ _ _ p.1 _ _ c.in-Aes128.is)
