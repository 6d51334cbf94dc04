use mathlib.Core.Path.{◌≡◌, refl, sym, ap, ◌∙◌}
use mathlib.Core.Logic.{inl, inr}
use native.Mathlib.Omega.{arith}
use borrow.Author.Rules.{rules}
use Rattle.std.specs.Prelude.{Ok}
use Rattle.answer.specs.Scheme.{mark_of}
use Rattle.frame.specs.AesFrame.{aes_size}
use Rattle.frame.proofs.DesSeals.{size_most}
use Rattle.frame.proofs.Schemes.{forecast_des, forecast_aes, forecast_17, forecast_12, forecast_sized}
use Rattle.frame.proofs.secure.forecast.Goals as goal

pub returns-in_err-try_from : goal.returns-in_err-try_from
returns-in_err-try_from c = forecast_17 c.args.scheme c.args.payload_len _ c.in_err-try_from.field-0.0 (search rules) c.in_err-try_from.ensures

pub returns-in_err-size_des-in-Des : goal.returns-in_err-size_des-in-Des
returns-in_err-size_des-in-Des c =
    let m : c.args.scheme ≡ 1 = sym c.in_ok-try_from.ensures ∙ ap mark_of c.in-Des.is in
    forecast_12 c.args.scheme c.args.payload_len _ (inl m) 232 _ (forecast_des _ _ m) c.in_err-size_des-in-Des.field-0.0 (search rules) c.in_err-size_des-in-Des.ensures

pub overflow_cast-branch : goal.overflow_cast-branch
overflow_cast-branch c = let s = c.in_ok-size_des-in-Des.ensures in omega (arith, s.1, size_most c.args.payload_len s.0)

pub returns-in_ok-size_des-in-Des : goal.returns-in_ok-size_des-in-Des
returns-in_ok-size_des-in-Des c =
    let m : c.args.scheme ≡ 1 = sym c.in_ok-try_from.ensures ∙ ap mark_of c.in-Des.is in
    forecast_sized c.args.scheme c.args.payload_len (Ok c.sized.result) (inl m) 232 _ (forecast_des _ _ m) _ c.in_ok-size_des-in-Des.ensures (refl, c.sized.ensures.0, c.sized.ensures.1, c.sized.ensures.2)

pub returns-in_err-size_aes-in-Aes128 : goal.returns-in_err-size_aes-in-Aes128
returns-in_err-size_aes-in-Aes128 c =
    let m : c.args.scheme ≡ 2 = sym c.in_ok-try_from.ensures ∙ ap mark_of c.in-Aes128.is in
    forecast_12 c.args.scheme c.args.payload_len _ (inr m) 243 _ (forecast_aes _ _ m) c.in_err-size_aes-in-Aes128.field-0.0 (search rules) c.in_err-size_aes-in-Aes128.ensures

pub overflow_cast-branch-in-Aes128 : goal.overflow_cast-branch-in-Aes128
unfolding aes_size
overflow_cast-branch-in-Aes128 c = let s = c.in_ok-size_aes-in-Aes128.ensures in omega (arith, s.0, s.1)

pub returns-in_ok-size_aes-in-Aes128 : goal.returns-in_ok-size_aes-in-Aes128
unfolding aes_size
returns-in_ok-size_aes-in-Aes128 c =
    let m : c.args.scheme ≡ 2 = sym c.in_ok-try_from.ensures ∙ ap mark_of c.in-Aes128.is in
    forecast_sized c.args.scheme c.args.payload_len (Ok c.sized-in-Aes128.result) (inr m) 243 _ (forecast_aes _ _ m) _ c.in_ok-size_aes-in-Aes128.ensures (refl, c.sized-in-Aes128.ensures.0, c.sized-in-Aes128.ensures.1, c.sized-in-Aes128.ensures.2)
