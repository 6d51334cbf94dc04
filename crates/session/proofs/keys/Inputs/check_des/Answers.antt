use Rattle.std.proofs.Common.{◌∙◌, ◌≡◌, ◌≢◌, refl, length, rules, tests, arith}
use Rattle.std.proofs.lemmas.Iterator.Search.{all_from_yields_List}
use borrow.Author.Tests.{eq-eqb, ne_eqb}
use Rattle.answer.specs.Outcome.{first_of, choose}
use Rattle.answer.specs.Tests.{isnt}
use Rattle.session.specs.Derivation.{des_rows}
use Rattle.session.specs.Entries.{nodes}
use Rattle.session.specs.ServiceCode.{key_free}
use Rattle.session.proofs.NodeLists.{length_nodes, none_bearing, some_bearing, YieldsList-from_nodes}
use Rattle.session.proofs.DerivationSteps.{bytes_none, bytes_some}
use Rattle.session.proofs.keys.Inputs.check_des.Goals as goal

pub returns-then-is_some : goal.returns-then-is_some
unfolding des_rows first_of choose isnt
returns-then-is_some c = (rw (ne_eqb _ _ (bytes_some c.args.self.now.individual _ c.args.self.now.own c.is_some.ensures c.if-is_some.true)), refl)

pub returns-then-self-lt2 : goal.returns-then-self-lt2
unfolding des_rows first_of choose isnt
returns-then-self-lt2 c =
    let n : length (nodes c.args.self.now.areas.now) ≡ 0 = length_nodes c.args.self.now.areas.now ∙ omega arith in
    (rw (bytes_none _ _ c.is_some.ensures c.if-is_some.false, eq-eqb _ _ n), refl)

pub returns-then-all : goal.returns-then-all
unfolding des_rows first_of choose isnt
returns-then-all c =
    let n : length (nodes c.args.self.now.areas.now) ≢ 0 = λ z. omega (arith, length_nodes c.args.self.now.areas.now) in
    let a = all_from_yields_List key_free c.all.new.self _ c.all.result c.all.ensures.ran (YieldsList-from_nodes c.args.self.now.services.now c.of.ensures) (λ x b q k. search (rules, tests)) in
    (rw (bytes_none _ _ c.is_some.ensures c.if-is_some.false, ne_eqb _ _ n, eq-eqb _ _ (none_bearing _ _ a c.if-all.true)), refl)

pub returns : goal.returns
unfolding des_rows first_of choose isnt
returns c =
    let n : length (nodes c.args.self.now.areas.now) ≢ 0 = λ z. omega (arith, length_nodes c.args.self.now.areas.now) in
    let a = all_from_yields_List key_free c.all.new.self _ c.all.result c.all.ensures.ran (YieldsList-from_nodes c.args.self.now.services.now c.of.ensures) (λ x b q k. search (rules, tests)) in
    rw (bytes_none _ _ c.is_some.ensures c.if-is_some.false, ne_eqb _ _ n, ne_eqb _ _ (some_bearing _ _ a c.if-all.false))
