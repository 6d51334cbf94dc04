use mathlib.Core.Path.{◌≡◌, sym, ap, ◌∙◌}
use native.Mathlib.Omega.{arith}
use borrow.Author.Rules.{rules}
use Rattle.answer.specs.Scheme.{mark_of}
use Rattle.session.proofs.Challenges.{size_des_lem, size_aes, des_known, aes_known, unknown_wrong, idm_wrong, keys_wrong, block_wrong, none_wrong, des_context_lem, aes_context_lem, not_parsed}
use Rattle.session.proofs.challenge.parse.Goals as goal

pub returns-in_err-scheme : goal.returns-in_err-scheme
returns-in_err-scheme c =
    let e = c.in_err-scheme.ensures in
    not_parsed _ _ _ _ (unknown_wrong _ _ _ _ e.1 e.2) c.in_err-scheme.field-0.0 _ (search rules) e.0

pub returns-in_err-idm : goal.returns-in_err-idm
returns-in_err-idm c =
    let e = c.in_err-idm.ensures in
    not_parsed _ _ _ _ (idm_wrong c.args.scheme _ _ _ e.0) c.in_err-idm.field-0.0 _ (search rules) e.1

pub returns-in_err-block-in-Des : goal.returns-in_err-block-in-Des
returns-in_err-block-in-Des c =
    let m : c.args.scheme ≡ 1 = sym c.in_ok-scheme.ensures ∙ ap mark_of c.in-Des.is in
    let e = c.in_err-block-in-Des.ensures in
    not_parsed _ _ _ _ (block_wrong _ _ _ _ 8 (size_des_lem _ m) e.0) c.in_err-block-in-Des.field-0.0 _ (search rules) e.1

pub returns-in_err-group_key-in-Des : goal.returns-in_err-group_key-in-Des
returns-in_err-group_key-in-Des c =
    let m : c.args.scheme ≡ 1 = sym c.in_ok-scheme.ensures ∙ ap mark_of c.in-Des.is in
    let e = c.in_err-group_key-in-Des.ensures in
    not_parsed _ _ _ _ (keys_wrong _ _ _ _ 8 (size_des_lem _ m) e.0) c.in_err-group_key-in-Des.field-0.0 _ (search rules) e.1

pub returns-in_err-block-in-Aes128 : goal.returns-in_err-block-in-Aes128
returns-in_err-block-in-Aes128 c =
    let m : c.args.scheme ≡ 2 = sym c.in_ok-scheme.ensures ∙ ap mark_of c.in-Aes128.is in
    let e = c.in_err-block-in-Aes128.ensures in
    not_parsed _ _ _ _ (block_wrong _ _ _ _ 16 (size_aes _ (λ h. omega (arith, m, h))) e.0) c.in_err-block-in-Aes128.field-0.0 _ (search rules) e.1

pub returns-in_err-group_key-in-Aes128 : goal.returns-in_err-group_key-in-Aes128
returns-in_err-group_key-in-Aes128 c =
    let m : c.args.scheme ≡ 2 = sym c.in_ok-scheme.ensures ∙ ap mark_of c.in-Aes128.is in
    let e = c.in_err-group_key-in-Aes128.ensures in
    not_parsed _ _ _ _ (keys_wrong _ _ _ _ 16 (size_aes _ (λ h. omega (arith, m, h))) e.0) c.in_err-group_key-in-Aes128.field-0.0 _ (search rules) e.1

pub returns-in_ok-block-in-Des : goal.returns-in_ok-block-in-Des
returns-in_ok-block-in-Des c =
    let m : c.args.scheme ≡ 1 = sym c.in_ok-scheme.ensures ∙ ap mark_of c.in-Des.is in
    let k = c.in_ok-group_key-in-Des.ensures in
    let i = c.in_ok-idm.ensures in
    let b = c.in_ok-block-in-Des.ensures in
    let x = des_context_lem c.args.keys.now c.args.idm.now _ _ _ i.1 _ _ _ (k.1, k.2) c.new-context.ensures in
    (none_wrong _ _ _ _ 8 (size_des_lem _ m) (des_known _ m) k.0 i.0 b.0, (m, x.0, x.1, x.2, b.1))

pub returns-in_ok-block-in-Aes128 : goal.returns-in_ok-block-in-Aes128
returns-in_ok-block-in-Aes128 c =
    let m : c.args.scheme ≡ 2 = sym c.in_ok-scheme.ensures ∙ ap mark_of c.in-Aes128.is in
    let k = c.in_ok-group_key-in-Aes128.ensures in
    let i = c.in_ok-idm.ensures in
    let b = c.in_ok-block-in-Aes128.ensures in
    let x = aes_context_lem c.args.keys.now c.args.idm.now _ _ _ i.1 _ _ (k.1, k.2) c.new-context-in-Aes128.ensures in
    (none_wrong _ _ _ _ 16 (size_aes _ (λ h. omega (arith, m, h))) (aes_known _ m) k.0 i.0 b.0, (m, x.0, x.1, b.1))
