use Rattle.session.proofs.DerivationSteps.{rows_derives, choice_derives, des_derives, aes_derives}
use Rattle.session.proofs.keys.derive_auth_keys.Goals as goal

pub returns-in_err-inputs : goal.returns-in_err-inputs
returns-in_err-inputs c = rows_derives _ _ _ _ _ _ _ _ _ c.from_residual.ensures.1 c.in_err-inputs.ensures.guards

pub returns-in_err-choose_scheme : goal.returns-in_err-choose_scheme
returns-in_err-choose_scheme c =
    let k = c.in_ok-inputs.ensures in
    choice_derives _ _ _ _ _ _ k.guards _ _ _ _ c.in_ok-inputs.inputs.individual k.given _ _ _ c.from_residual-in_err-choose_scheme.ensures.1 c.in_err-choose_scheme.ensures

pub returns-in-Des : goal.returns-in-Des
returns-in-Des c =
    let k = c.in_ok-inputs.ensures in
    des_derives _ _ _ _ _ _ k.guards _ _ _ _ c.in_ok-inputs.inputs.individual k.given _ c.in_ok-choose_scheme.ensures _ _ _ c.in-Des.is c.derive_des.ensures

pub returns-in-Aes128 : goal.returns-in-Aes128
returns-in-Aes128 c =
    let k = c.in_ok-inputs.ensures in
    aes_derives _ _ _ _ _ _ k.guards _ _ _ _ c.in_ok-inputs.inputs.individual k.given _ c.in_ok-choose_scheme.ensures _ _ _ c.in-Aes128.is c.derive_aes128.ensures
