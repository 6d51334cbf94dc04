use mathlib.Core.Path.{refl}
use native.Mathlib.Omega.{arith}
use borrow.Author.Tests.{ne_eqb}
use Rattle.std.proofs.lemmas.List.{get_or-replicate}
use Rattle.cipher.proofs.Compare.{gather_step}
use Rattle.answer.specs.Outcome.{choose}
use Rattle.frame.proofs.Trims.{compared_padding}
use Rattle.frame.proofs.des.padding_of.Goals as goal

pub loop-x-preserved : goal.loop-x-preserved
loop-x-preserved c =
    let v = c.args.v in
    let i = c.loop-x.x-index in
    rw (get_or-replicate v i v 0 (omega arith)) at (gather_step c.loop-x.invariant (omega arith))

pub returns-then-diff-eq0 : goal.returns-then-diff-eq0
unfolding choose
returns-then-diff-eq0 c = rw (compared_padding c.args.payload.now c.requires.range c.requires.there c.loop-x.invariant (omega arith), c.if-diff-eq0.true) refl

pub returns-else-diff-eq0 : goal.returns-else-diff-eq0
unfolding choose
returns-else-diff-eq0 c = rw (compared_padding c.args.payload.now c.requires.range c.requires.there c.loop-x.invariant (omega arith), ne_eqb c.loop-x.diff 0 c.if-diff-eq0.false) refl
