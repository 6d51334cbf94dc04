use mathlib.Core.Path.{◌≡◌, refl, sym, ◌∙◌}
use borrow.Author.Rules.{rules}
use native.Mathlib.Omega.{arith}
use lib.ListN.{length, take, replicate}
use lib.Seq.{length-take-le}
use Rattle.answer.proofs.Outputs.{front, fits_front}
use Rattle.answer.proofs.Rows.{err_meets, delivers_meets}
use Rattle.session.specs.Session.{opened}
use Rattle.session.proofs.SessionSteps.{receiving_refused, not_above, above}
use Rattle.session.proofs.context.AuthenticatedContext.receive.Goals as goal

pub returns-in_err-opened : goal.returns-in_err-opened
unfolding opened
returns-in_err-opened c =
    let a = c.args in
    receiving_refused a.self.now a.code a.«data».now (length a.out.now) c.in_err-opened.field-0.0 a.out.now (search rules) c.in_err-opened.ensures.number

pub returns-then-opened-self : goal.returns-then-opened-self
unfolding opened
returns-then-opened-self c =
    let a = c.args in
    let m = c.in_ok-opened.ensures in
    rw (not_above a.self.now a.code a.«data».now (length a.out.now) m.number (rw m.transaction at c.if-opened-self.true)) (err_meets _ a.out.now refl)

pub slice_bounds-work-end : goal.slice_bounds-work-end
unfolding opened
slice_bounds-work-end c =
    let m = c.in_ok-opened.ensures in
    let f = fits_front (opened c.args.self.now c.args.code c.args.«data».now).bytes (replicate 256 0) c.open.new.out m.output c.open.auto.out in
    omega (arith, m.length_is, f, c.from.ensures, c.open.auto.out)

pub slice_bounds-deliver-end : goal.slice_bounds-deliver-end
unfolding opened
slice_bounds-deliver-end c =
    let m = c.in_ok-opened.ensures in
    let f = fits_front (opened c.args.self.now c.args.code c.args.«data».now).bytes (replicate 256 0) c.open.new.out m.output c.open.auto.out in
    sym (length-take-le _ _ (omega (arith, m.length_is, f, c.from.ensures, c.open.auto.out)))

pub returns : goal.returns
unfolding opened
returns c =
    let a = c.args in
    let m = c.in_ok-opened.ensures in
    let b = (opened a.self.now a.code a.«data».now).bytes in
    let n : c.from.result ≡ length b = c.from.ensures ∙ m.length_is in
    let f = fits_front b (replicate 256 0) c.open.new.out m.output c.open.auto.out in
    let w : take c.from.result c.open.new.out ≡ b = front b (replicate 256 0) c.open.new.out _ (sym n) m.output in
    rw (above a.self.now a.code a.«data».now (length a.out.now) m.number (rw m.transaction at c.if-opened-self.false))
    (delivers_meets _ 0 b _ (rw w at (rw m.transaction at c.deliver.ensures)) (omega (arith, f)))
