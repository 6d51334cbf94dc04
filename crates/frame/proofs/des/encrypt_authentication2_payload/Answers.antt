use mathlib.Core.Path.{◌≡◌, refl, sym, ap, ◌∙◌}
use Prim.Native.Nat.{ℕ, ◌+◌, ◌<◌}
use native.Mathlib.Omega.{arith}
use borrow.Author.Rules.{rules}
use borrow.Author.Tests.{eq-eqb, lt-ltb, le-ltb}
use mathlib.Core.List.{List}
use lib.ListN.{length, replicate}
use lib.Seq.{length-take-le}
use Rattle.answer.specs.Outcome.{choose, first_of, over}
use Rattle.answer.specs.Tests.{isnt, both}
use Rattle.answer.proofs.Outputs.{copied_over}
use Rattle.answer.proofs.Rows.{numbered, one_17, row_meets}
use Rattle.frame.specs.Authentication2.{auth2_code, auth2_seal_rows, auth2_size, auth2_sealed}
use Rattle.frame.specs.DesFrame.{des_seal}
use Rattle.frame.specs.Padding.{pad_count, pad}
use Rattle.frame.proofs.Authentications.{short_padded, auth2_seal_steps}
use Rattle.frame.proofs.DesSeals.{sealed_over}
use Rattle.frame.proofs.WorkBlocks.{delivered}
use Rattle.frame.proofs.des.encrypt_authentication2_payload.Goals as goal

pub returns-in_err-key : goal.returns-in_err-key
unfolding auth2_seal_rows
returns-in_err-key c =
    let a = c.args in
    rw (auth2_seal_steps a.key.now a.payload.now (length a.out.now)) (row_meets _ _ c.in_err-key.field-0.0 a.out.now (search rules) (one_17 _ 8 _ _ c.in_err-key.ensures))

pub returns-then-n-gt-AUTHENTICATION2_MAX : goal.returns-then-n-gt-AUTHENTICATION2_MAX
unfolding auth2_seal_rows first_of choose isnt
returns-then-n-gt-AUTHENTICATION2_MAX c =
    let a = c.args in
    let n = length a.payload.now in
    let h : 240 < n + pad_count n = omega arith in
    rw (auth2_seal_steps a.key.now a.payload.now (length a.out.now))
    (row_meets (auth2_seal_rows (length a.key.now) n) _ _ a.out.now refl (rw (eq-eqb _ _ c.in_ok-key.ensures.0, lt-ltb _ _ h)))

pub seal_front-sealed-requires : goal.seal_front-sealed-requires
seal_front-sealed-requires c = omega (arith, short_padded _ c.if-n-gt-AUTHENTICATION2_MAX.false)

pub slice_bounds-work-end : goal.slice_bounds-work-end
slice_bounds-work-end c = omega (arith, short_padded _ c.if-n-gt-AUTHENTICATION2_MAX.false, c.seal_front-sealed.ensures.front.0)

pub slice_bounds-deliver-end : goal.slice_bounds-deliver-end
slice_bounds-deliver-end c = sym (length-take-le _ _ (omega (arith, short_padded _ c.if-n-gt-AUTHENTICATION2_MAX.false, c.seal_front-sealed.ensures.front.0)))

pub returns : goal.returns
unfolding auth2_sealed auth2_size auth2_seal_rows numbered both first_of choose isnt
returns c =
    let a = c.args in
    let p = a.payload.now in
    let o = a.out.now in
    let k = c.in_ok-key.ensures in
    let l = short_padded _ c.if-n-gt-AUTHENTICATION2_MAX.false in
    let q = sealed_over auth2_code (length p) _ c.in_ok-key.key p (replicate 256 0) _ _ refl (copied_over p (replicate 256 0) _ (omega arith) c.copy.ensures) c.seal_front-sealed.ensures.front in
    let b : des_seal c.in_ok-key.key auth2_code (pad p) ≡ des_seal a.key.now auth2_code (pad p) = ap (λ (k : List ℕ). des_seal k auth2_code (pad p)) k.1 in
    rw (auth2_seal_steps a.key.now p (length o))
    (delivered (auth2_seal_rows (length a.key.now) (length p)) (des_seal a.key.now auth2_code (pad p)) (length p + pad_count (length p) + 8) (pad_count (length p)) refl c.seal_front-sealed.result (replicate 256 0) c.seal_front-sealed.new.out
    (rw (eq-eqb _ _ k.0, le-ltb _ _ l), c.seal_front-sealed.ensures.front.0, omega arith, sym c.seal_front-sealed.ensures.front.0 ∙ q.0 ∙ ap length b, q.1 ∙ ap (λ (z : List ℕ). over z (replicate 256 0)) b, c.seal_front-sealed.ensures.padding) (length o) c.deliver.ensures)
