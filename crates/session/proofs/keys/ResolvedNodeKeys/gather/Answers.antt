use Rattle.std.proofs.Common.{◌≤◌, ◌+◌, length, arith}
use Rattle.std.proofs.lemmas.Result.{err_from_is_err_and}
use Rattle.std.proofs.lemmas.Iterator.{YieldsList}
use Rattle.std.proofs.lemmas.Iterator.Consumers.{YieldsList-at}
use Rattle.session.proofs.Gathering.{length_most, gathered_none, gathered_copied, gather_lacks, gather_done}
use Rattle.session.proofs.keys.ResolvedNodeKeys.gather.Goals as goal

pub loop-node-init : goal.loop-node-init
loop-node-init g c =
    rw c.into_iter-node-iterator.ensures.into_iter_gives
    (record { can = c.requires.can; finite = c.requires.room.0; room = omega (arith, c.requires.room.1); gathered = gathered_none _ _ _ })

pub returns-in_err-key-clause-gathered : goal.returns-in_err-key-clause-gathered
returns-in_err-key-clause-gathered g c =
    let p = err_from_is_err_and c.from_residual.result c.from_residual.ensures.1 in
    rw (p.1, p.2) (λ ns y. let road : YieldsList g.I.Iterator.next_gives (λ x. x) c.args.nodes ns = record { runs = y.runs } in
    gather_lacks (YieldsList-at c.into_iter-node-iterator.ensures.into_iter_gives road) _ _ c.loop-node.yielded_by _ _ c.next.ensures.steps _ _ _ _ c.loop-node.invariant.gathered _ _ c.in-Some.is c.in_err-key.ensures)

pub slice_bounds-copy-end : goal.slice_bounds-copy-end
slice_bounds-copy-end g c =
    let h = c.in-Some.ensures.goes.on c.loop-node.invariant.finite in
    let k = c.in_ok-key.ensures in
    let m = c.loop-node.invariant.room in
    omega (arith, h.2, k.2, m, length_most)

pub loop-node-preserved : goal.loop-node-preserved
loop-node-preserved g c =
    let h = c.in-Some.ensures.goes.on c.loop-node.invariant.finite in
    let k = c.in_ok-key.ensures in
    let m = c.loop-node.invariant.room in
    let r : c.loop-node.end + length c.in_ok-key.key.now ≤ length c.loop-node.work = omega (arith, h.2, k.2, m, length_most) in
    record {
      can = h.0;
      finite = h.1;
      room = omega (arith, h.2, k.2, m, length_most);
      gathered = gathered_copied _ _ _ _ _ c.loop-node.invariant.gathered _ _ _ k.0 k.1 k.2 r c.copy.ensures;
    }

pub returns-clause-gathered : goal.returns-clause-gathered
returns-clause-gathered g c = λ ns y.
    let road : YieldsList g.I.Iterator.next_gives (λ x. x) c.args.nodes ns = record { runs = y.runs } in
    gather_done (YieldsList-at c.into_iter-node-iterator.ensures.into_iter_gives road) _ _ c.loop-node.yielded_by _ _ c.next.ensures.steps _ _ _ _ c.loop-node.invariant.gathered c.in-None.is
