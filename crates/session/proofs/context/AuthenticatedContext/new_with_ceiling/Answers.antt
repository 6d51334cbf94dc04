use mathlib.Core.Path.{refl, sym, ◌∙◌}
use borrow.Author.Rules.{rules}
use native.Mathlib.Omega.{arith}
use Rattle.session.specs.Session.{established_under}
use Rattle.session.proofs.SessionSteps.{credentials_most, filled_is, unknown_mark, known_mark, wrong_id, wrong_credentials, half_node, too_many_nodes, no_row, made_refused}
use Rattle.session.proofs.context.AuthenticatedContext.new_with_ceiling.Goals as goal
use Rattle.answer.specs.declared.refusal.Refusal.TheVariants.{BadMarkOrLength}
use Rattle.session.proofs.context.AuthenticatedContext.new_with_ceiling.Goals.{then-id-ne6-via-then-id-ne6, then-id-ne6-via-else-id-ne6+then-credentials-credentials_size, then-id-ne6-via-else-id-ne6+else-credentials-credentials_size+then-nodes-ne0}

pub returns-in_err-try_from : goal.returns-in_err-try_from
returns-in_err-try_from c =
    let a = c.args in
    made_refused a.ceiling a.scheme a.number a.id.now a.credentials.now a.nodes.now c.in_err-try_from.field-0.0 (search rules)
    (unknown_mark _ _ _ _ c.in_err-try_from.field-0.0 c.in_err-try_from.ensures)

pub returns-then-id-ne6 : goal.returns-then-id-ne6
returns-then-id-ne6 c =
    elim c.then-id-ne6.branch [
      | then-id-ne6-via-then-id-ne6 w ↦ wrong_id _ _ _ _ BadMarkOrLength (w.if-id-ne6.true, refl)
      | then-id-ne6-via-else-id-ne6+then-credentials-credentials_size w ↦ wrong_credentials _ _ _ _ (λ e. w.if-credentials-credentials_size.true (e ∙ sym w.credentials_size.ensures))
      | then-id-ne6-via-else-id-ne6+else-credentials-credentials_size+then-nodes-ne0 w ↦ half_node _ _ _ _ w.if-nodes-ne0.true
    ]

pub returns-then-nodes-gt128 : goal.returns-then-nodes-gt128
returns-then-nodes-gt128 c =
    too_many_nodes c.args.scheme _ _ _ (known_mark _ _ c.in_ok-try_from.ensures) c.if-id-ne6.false (c.if-credentials-credentials_size.false ∙ c.credentials_size.ensures) c.if-nodes-ne0.false c.if-nodes-gt128.true

pub returns : goal.returns
unfolding established_under
returns c =
    let a = c.args in
    let size = c.if-credentials-credentials_size.false ∙ c.credentials_size.ensures in
    let k = filled_is 36 a.credentials.now c.fit-2.result (omega (arith, size, credentials_most a.scheme)) c.fit-2.ensures.0 in
    let n = filled_is 128 a.nodes.now c.fit-3.result c.if-nodes-gt128.false c.fit-3.ensures.0 in
    (no_row a.scheme _ _ _ (known_mark _ _ c.in_ok-try_from.ensures) c.if-id-ne6.false size c.if-nodes-ne0.false c.if-nodes-gt128.false, rw (c.fit.ensures.1 c.if-id-ne6.false, k, n))
