use Rattle.std.proofs.Common.{arith}
use Rattle.session.proofs.KeySearch.{search_ends, search_goes_on, search_fails}
use Rattle.session.proofs.keys.ResolvedNodeKeys.find_key.Goals as goal

pub returns-then-is_for : goal.returns-then-is_for
returns-then-is_for c = rw (← c.mark-algorithm.ensures) (search_ends _ _ _ _ _ c.loop-entry.invariant.1 c.loop-entry-test.true _ c.is_for.ensures c.if-is_for.true)

pub loop-entry-preserved : goal.loop-entry-preserved
loop-entry-preserved c =
    let i = c.loop-entry.invariant in
    (omega (arith, i.0), search_goes_on _ _ _ _ _ i.1 c.loop-entry-test.true _ c.is_for.ensures c.if-is_for.false)

pub returns : goal.returns
returns c = rw (← c.mark-algorithm.ensures) (search_fails _ _ _ _ _ c.loop-entry.invariant.1 (omega arith))
