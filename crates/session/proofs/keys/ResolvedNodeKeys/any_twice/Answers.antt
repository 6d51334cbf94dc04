use Rattle.std.proofs.Common.{◌∙◌, get_or, rules, tests}
use Rattle.std.proofs.lemmas.Iterator.{YieldsList-from_slice}
use Rattle.std.proofs.lemmas.Iterator.Search.{any_from_yields_List}
use Rattle.session.specs.Entries.{entry_of, is_for}
use Rattle.session.proofs.KeySearch.{twice_found, twice_passed, twice_none}
use Rattle.session.proofs.keys.ResolvedNodeKeys.any_twice.Goals as goal

pub returns-then-any : goal.returns-then-any
unfolding entry_of
returns-then-any c =
    let k = c.in-Some.ensures.cases in
    let a = any_from_yields_List (λ l. is_for (entry_of l) c.from_le_bytes-node.result (get_or c.in-Some.entry.now 2 0)) _ _ _ c.any.ensures.ran (YieldsList-from_slice c.in-Some.others.now (cc)) (λ x b q e. search (rules, tests)) in
    twice_found _ _ _ k.0 _ c.from_le_bytes-node.ensures _ a c.if-any.true ∙ c.loop-entry.invariant

pub loop-entry-preserved : goal.loop-entry-preserved
unfolding entry_of
loop-entry-preserved c =
    let k = c.in-Some.ensures.cases in
    let a = any_from_yields_List (λ l. is_for (entry_of l) c.from_le_bytes-node.result (get_or c.in-Some.entry.now 2 0)) _ _ _ c.any.ensures.ran (YieldsList-from_slice c.in-Some.others.now (cc)) (λ x b q e. search (rules, tests)) in
    twice_passed _ _ _ k.0 _ c.from_le_bytes-node.ensures _ a c.if-any.false ∙ c.loop-entry.invariant

pub returns : goal.returns
returns c = twice_none _ c.in_default.ensures.cases ∙ c.loop-entry.invariant
