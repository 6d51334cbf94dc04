use borrow.Author.Rules.{rules}
use mathlib.Core.Path.{◌≡◌, refl, sym, ap, ◌∙◌}
use Prim.Native.Nat.{◌≤◌}
use native.Mathlib.Omega.{arith}
use lib.ListN.{length, replicate}
use lib.Seq.{length-take-le}
use Rattle.answer.specs.Number.{number_of}
use Rattle.answer.specs.Outcome.{Outcome, acceptance, over}
use Rattle.answer.specs.Refusal.{refusal_number}
use Rattle.frame.specs.DesFrame.{des_plain, payload_of}
use Rattle.frame.specs.Trimmed.{trim}
use Rattle.answer.proofs.Rows.{refusal_some, err_meets, delivers_meets}
use Rattle.answer.proofs.Outputs.{front}
use Rattle.frame.proofs.Trims.{trim_no_longer, trimmed_refuses, trimmed_opens, opened_fits, opened_whole}
use Rattle.frame.proofs.des.decrypt_secure_response_trimmed_des.Goals as goal

pub returns-in_err-opened : goal.returns-in_err-opened
returns-in_err-opened c =
    let a = c.args in
    let e = c.in_err-opened.field-0.0 in
    rw (trimmed_refuses a.key.now a.id.now a.«data».now a.code (refusal_number e) c.in_err-opened.ensures.number (length a.out.now) (refusal_some e)) (err_meets e a.out.now (search rules))

pub slice_bounds-work-end : goal.slice_bounds-work-end
slice_bounds-work-end c =
    let a = c.args in
    let m = c.in_ok-opened.ensures in
    let h = opened_fits a.key.now a.id.now a.«data».now a.code 0 m.number _ m.length_is refl in
    omega arith

pub slice_bounds-trim_payload-end : goal.slice_bounds-trim_payload-end
slice_bounds-trim_payload-end c =
    let a = c.args in
    let m = c.in_ok-opened.ensures in
    let h = opened_fits a.key.now a.id.now a.«data».now a.code 0 m.number _ m.length_is refl in
    sym (length-take-le _ _ (omega arith))

pub trim_payload-payload-requires : goal.trim_payload-payload-requires
trim_payload-payload-requires c =
    let a = c.args in
    let m = c.in_ok-opened.ensures in
    let h = opened_fits a.key.now a.id.now a.«data».now a.code 0 m.number _ m.length_is refl in
    let w = opened_whole a.key.now a.id.now a.«data».now a.code 0 m.number (search rules) (λ j. search rules) _ m.length_is refl in
    rw (length-take-le c.from-n.result c.decrypt_secure_response_des.new.out (omega arith), c.from-n.ensures) w

pub returns : goal.returns
unfolding acceptance
returns c =
    let a = c.args in
    let m = c.in_ok-opened.ensures in
    let t = trimmed_opens a.key.now a.id.now a.«data».now a.code 0 m.number (length a.out.now) refl in
    let pl = payload_of (des_plain a.key.now a.«data».now) in
    let n : c.from-n.result ≡ length pl = c.from-n.ensures ∙ m.length_is ∙ ap (λ (o : Outcome). length o.bytes) t.0 in
    let x : c.in_ok-opened.opened.transaction_number ≡ number_of (des_plain a.key.now a.«data».now) = m.transaction ∙ ap (λ (o : Outcome). o.transaction) t.0 in
    let w = front pl (replicate 256 0) c.decrypt_secure_response_des.new.out _ (sym n) (m.output ∙ ap (λ (o : Outcome). over o.bytes (replicate 256 0)) t.0) in
    let y : c.trim_payload-payload.result.now ≡ trim pl = c.trim_payload-payload.ensures ∙ ap trim w in
    let l : length (trim pl) ≤ 65535 = trim_no_longer pl 65535 (omega (arith, t.2)) in
    rw t.1 (delivers_meets _ 0 _ _ (rw y at (rw x at c.deliver.ensures)) l)
