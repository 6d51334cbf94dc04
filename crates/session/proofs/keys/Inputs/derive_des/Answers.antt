use mathlib.Core.List.{List}
use Prim.Native.Nat.{ℕ}
use Rattle.std.proofs.Common.{◌≡◌, ◌∙◌, ap, map, rules, tests}
use Rattle.cipher.specs.Fips46.{des_encrypt}
use Rattle.cipher.specs.Fold.{under_each}
use Rattle.answer.specs.Outcome.{choose}
use Rattle.session.specs.Derivation.{key_length, keys_of}
use Rattle.session.specs.Entries.{entry_of, nodes}
use Rattle.session.specs.ServiceCode.{bearing}
use Rattle.session.proofs.NodeLists.{length_nodes, Lists-nodes, Lists-keyed}
use Rattle.session.proofs.DerivationSteps.{question_derives, des_refused, des_no_system, des_lacks_area, des_lacks_service, des_given}
use Rattle.session.proofs.keys.Inputs.derive_des.Goals as goal

pub gather-requires-clause-room : goal.gather-requires-clause-room
gather-requires-clause-room c = rw (c.of.ensures, length_nodes) (tt, c.args.self.now.few.0)

pub gather-requires-2-clause-room : goal.gather-requires-2-clause-room
gather-requires-2-clause-room c = rw (c.filter-keyed.ensures.source, c.of-2.ensures, length_nodes) (tt, c.args.self.now.few.1)

pub returns-in_err-check_des : goal.returns-in_err-check_des
returns-in_err-check_des c = question_derives _ _ _ _ _ c.from_residual.ensures.1 (des_refused _ _ _ _ _ c.in_err-check_des.ensures)

pub returns-in_err-system : goal.returns-in_err-system
returns-in_err-system c = question_derives _ _ _ _ _ c.from_residual-in_err-system.ensures.1 (des_no_system _ _ _ _ c.in_ok-check_des.ensures _ c.in_err-system.ensures)

pub returns-in_err-areas : goal.returns-in_err-areas
returns-in_err-areas c =
    question_derives _ _ _ _ _ c.from_residual-in_err-areas.ensures.1
    (des_lacks_area _ _ _ _ c.in_ok-check_des.ensures c.in_ok-system.ensures.0 _ (c.in_err-areas.ensures.gathered _ (Lists-nodes c.args.self.now.areas.now c.of.ensures)))

pub returns-in_err-services : goal.returns-in_err-services
returns-in_err-services c =
    let g = c.in_ok-areas.ensures.gathered _ (Lists-nodes c.args.self.now.areas.now c.of.ensures) in
    question_derives _ _ _ _ _ c.from_residual-in_err-services.ensures.1
    (des_lacks_service _ _ _ _ c.in_ok-check_des.ensures c.in_ok-system.ensures.0 g.0 _ (c.in_err-services.ensures.gathered _ (Lists-keyed _ _ c.args.self.now.services.now c.filter-keyed.ensures.source c.of-2.ensures c.filter-keyed.ensures.closure (λ x b q k. search (rules, tests)))))

pub returns : goal.returns
unfolding key_length choose
returns c =
    let g = c.in_ok-areas.ensures.gathered _ (Lists-nodes c.args.self.now.areas.now c.of.ensures) in
    let u = c.in_ok-services.ensures.gathered _ (Lists-keyed _ _ c.args.self.now.services.now c.filter-keyed.ensures.source c.of-2.ensures c.filter-keyed.ensures.closure (λ x b q k. search (rules, tests))) in
    let s = c.in_ok-system.ensures in
    let es = map entry_of c.args.self.now.keys.entries.now in
    let group : c.encrypt_des_under_each-group.result ≡ under_each des_encrypt 8 (keys_of es 1 (nodes c.args.self.now.areas.now)) c.fit.result =
    c.encrypt_des_under_each-group.ensures ∙ ap (λ (l : List ℕ). under_each des_encrypt 8 l c.fit.result) g.2 in
    let user : c.encrypt_des_under_each-user.result ≡ under_each des_encrypt 8 (keys_of es 1 (bearing (nodes c.args.self.now.services.now))) c.encrypt_des_under_each-group.result =
    c.encrypt_des_under_each-user.ensures ∙ ap (λ (l : List ℕ). under_each des_encrypt 8 l c.encrypt_des_under_each-group.result) u.2 in
    rw (des_given _ _ _ _ c.in_ok-check_des.ensures s.0 g.0 u.0 _ _ _ (c.fit.ensures.1 s.2 ∙ s.1) group user) c.deliver.ensures
