use Rattle.std.proofs.lemmas.Result.{err_from_is_err_and}
use Rattle.session.proofs.DerivationSteps.{no_target, chosen_forced, unforced, chosen_none, chosen_aes, chosen_des, chosen_lacking}
use Rattle.session.proofs.keys.Inputs.choose_scheme.Goals as goal

pub returns-in-Some : goal.returns-in-Some
returns-in-Some c = chosen_forced _ _ _ _ _ c.in-Some.is

pub returns-in_err-node : goal.returns-in_err-node
returns-in_err-node c =
    let p = err_from_is_err_and c.from_residual.result c.from_residual.ensures.1 in
    let t = no_target _ _ _ _ c.target_node.ensures c.in_err-node.ensures.value in
    rw (p.1, p.2, ← t.1) (chosen_none _ _ _ _ (unforced _ c.in_default.not-Some) t.0)

pub returns-then-has : goal.returns-then-has
returns-then-has c =
    let t = rw c.in_ok-node.ensures.ok_part at c.target_node.ensures in
    chosen_aes _ _ _ _ (unforced _ c.in_default.not-Some) t.0 _ t.1 _ c.has.ensures c.if-has.true

pub returns-then-has-2 : goal.returns-then-has-2
returns-then-has-2 c =
    let t = rw c.in_ok-node.ensures.ok_part at c.target_node.ensures in
    chosen_des _ _ _ _ (unforced _ c.in_default.not-Some) t.0 _ t.1 _ c.has.ensures c.if-has.false _ c.has-2.ensures c.if-has-2.true

pub returns : goal.returns
returns c =
    let t = rw c.in_ok-node.ensures.ok_part at c.target_node.ensures in
    chosen_lacking _ _ _ _ (unforced _ c.in_default.not-Some) t.0 _ t.1 _ c.has.ensures c.if-has.false _ c.has-2.ensures c.if-has-2.false
