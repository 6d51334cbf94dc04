use Rattle.std.proofs.Common.{◌∙◌, sym, refl, rules}
use borrow.Author.Tests.{eq-eqb, ne_eqb, lt-ltb, le-ltb}
use Rattle.answer.specs.Tests.{isnt, either}
use Rattle.answer.specs.Outcome.{choose, first_of}
use Rattle.session.specs.Derivation.{lengths_wrong, derive_rows}
use Rattle.session.proofs.DerivationSteps.{question_guards, mark_refuses, individual_refuses, by_lists, lists_whole, lists_known, lists_few}
use Rattle.session.proofs.keys.Inputs.new.Goals as goal
use Rattle.session.proofs.keys.Inputs.new.Goals.{then-keys-ne0-via-then-keys-ne0, then-keys-ne0-via-else-keys-ne0+then-areas-ne0, then-keys-ne0-via-else-keys-ne0+else-areas-ne0+then-services-ne0}
use Rattle.session.proofs.keys.Inputs.new.Goals.{then-keys-gt128-via-then-keys-gt128, then-keys-gt128-via-else-keys-gt128+then-areas-gt32, then-keys-gt128-via-else-keys-gt128+else-areas-gt32+then-services-gt32}

pub returns-in_err-forced-clause-guards : goal.returns-in_err-forced-clause-guards
returns-in_err-forced-clause-guards c = question_guards _ _ _ c.from_residual.ensures.1 (mark_refuses _ _ _ _ _ _ c.in_err-forced.ensures)

pub returns-in_err-individual-clause-guards : goal.returns-in_err-individual-clause-guards
returns-in_err-individual-clause-guards c = question_guards _ _ _ c.from_residual-in_err-individual.ensures.1 (individual_refuses _ _ _ _ _ _ c.in_err-individual.ensures)

pub returns-then-keys-ne0-clause-guards : goal.returns-then-keys-ne0-clause-guards
unfolding derive_rows lengths_wrong first_of choose either isnt
returns-then-keys-ne0-clause-guards c =
    let b = by_lists c.args.mark c.args.keys.now c.args.areas.now c.args.services.now c.args.individual.now _ c.in_ok-forced.ensures c.in_ok-individual.individual (search rules) c.in_ok-individual.ensures in
    elim c.then-keys-ne0.branch [
      | then-keys-ne0-via-then-keys-ne0 w ↦ (rw (b, ne_eqb _ _ w.if-keys-ne0.true), refl)
      | then-keys-ne0-via-else-keys-ne0+then-areas-ne0 w ↦ (rw (b, eq-eqb _ _ w.if-keys-ne0.false, ne_eqb _ _ w.if-areas-ne0.true), refl)
      | then-keys-ne0-via-else-keys-ne0+else-areas-ne0+then-services-ne0 w ↦ (rw (b, eq-eqb _ _ w.if-keys-ne0.false, eq-eqb _ _ w.if-areas-ne0.false, ne_eqb _ _ w.if-services-ne0.true), refl)
    ]

pub returns-then-any_algorithm_unknown-clause-guards : goal.returns-then-any_algorithm_unknown-clause-guards
unfolding choose
returns-then-any_algorithm_unknown-clause-guards c =
    let b = by_lists _ _ _ _ _ _ c.in_ok-forced.ensures c.in_ok-individual.individual (search rules) c.in_ok-individual.ensures in
    (b ∙ lists_whole _ _ _ _ c.from_keys-keys.ensures c.if-keys-ne0.false c.if-areas-ne0.false c.if-services-ne0.false ∙ rw (sym c.any_algorithm_unknown.ensures ∙ c.if-any_algorithm_unknown.true), refl)

pub returns-then-keys-gt128-clause-guards : goal.returns-then-keys-gt128-clause-guards
unfolding choose either
returns-then-keys-gt128-clause-guards c =
    let b = by_lists _ _ _ _ _ _ c.in_ok-forced.ensures c.in_ok-individual.individual (search rules) c.in_ok-individual.ensures in
    let e = b ∙ lists_known _ _ _ _ c.from_keys-keys.ensures c.if-keys-ne0.false c.if-areas-ne0.false c.if-services-ne0.false (sym c.any_algorithm_unknown.ensures ∙ c.if-any_algorithm_unknown.false) in
    elim c.then-keys-gt128.branch [
      | then-keys-gt128-via-then-keys-gt128 w ↦ (e ∙ rw (lt-ltb _ _ w.if-keys-gt128.true), refl)
      | then-keys-gt128-via-else-keys-gt128+then-areas-gt32 w ↦ (e ∙ rw (le-ltb _ _ w.if-keys-gt128.false, lt-ltb _ _ w.if-areas-gt32.true), refl)
      | then-keys-gt128-via-else-keys-gt128+else-areas-gt32+then-services-gt32 w ↦ (e ∙ rw (le-ltb _ _ w.if-keys-gt128.false, le-ltb _ _ w.if-areas-gt32.false, lt-ltb _ _ w.if-services-gt32.true), refl)
    ]

pub returns-then-any_twice-clause-guards : goal.returns-then-any_twice-clause-guards
unfolding choose
returns-then-any_twice-clause-guards c =
    let b = by_lists _ _ _ _ _ _ c.in_ok-forced.ensures c.in_ok-individual.individual (search rules) c.in_ok-individual.ensures in
    let e = b ∙ lists_few _ _ _ _ c.from_keys-keys.ensures c.if-keys-ne0.false c.if-areas-ne0.false c.if-services-ne0.false (sym c.any_algorithm_unknown.ensures ∙ c.if-any_algorithm_unknown.false) c.if-keys-gt128.false c.if-areas-gt32.false c.if-services-gt32.false in
    (e ∙ rw (sym c.any_twice.ensures ∙ c.if-any_twice.true), refl)

pub returns-clause-guards : goal.returns-clause-guards
unfolding choose
returns-clause-guards c =
    let b = by_lists _ _ _ _ _ _ c.in_ok-forced.ensures c.in_ok-individual.individual (search rules) c.in_ok-individual.ensures in
    let e = b ∙ lists_few _ _ _ _ c.from_keys-keys.ensures c.if-keys-ne0.false c.if-areas-ne0.false c.if-services-ne0.false (sym c.any_algorithm_unknown.ensures ∙ c.if-any_algorithm_unknown.false) c.if-keys-gt128.false c.if-areas-gt32.false c.if-services-gt32.false in
    e ∙ rw (sym c.any_twice.ensures ∙ c.if-any_twice.false)
