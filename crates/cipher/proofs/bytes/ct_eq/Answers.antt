use native.Mathlib.Omega.{arith}
use Rattle.std.proofs.Common.{length-append}
use Rattle.std.proofs.lemmas.Slice.Zip.{zip_turn, zip_end}
use Rattle.cipher.proofs.Compare.{gather_step, gather_done}
use Rattle.cipher.proofs.bytes.ct_eq.Goals as goal

pub loop-x-preserved : goal.loop-x-preserved
loop-x-preserved c =
    let t = zip_turn c.args.a.now c.args.b.now c.loop-x.yielded c.into_iter-x-iterator.result c.loop-x.x-iterator c.next.new.self _ (cc) (cc) c.loop-x.yielded_by _ c.in-Some.is c.next.ensures.steps in
    rw (length-append, t.2 0, t.3 0) (gather_step c.loop-x.invariant t.0)

pub returns : goal.returns
returns c =
    let t = zip_end c.args.a.now c.args.b.now c.loop-x.yielded c.into_iter-x-iterator.result c.loop-x.x-iterator c.next.new.self _ (cc) (cc) c.loop-x.yielded_by c.in-None.is c.next.ensures.steps in
    gather_done c.loop-x.invariant (omega arith)
