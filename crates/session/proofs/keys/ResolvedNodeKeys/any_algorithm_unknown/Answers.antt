use Rattle.std.proofs.Common.{◌∙◌, sym, rules, tests}
use Rattle.std.proofs.lemmas.Iterator.{YieldsList-from_slice}
use Rattle.std.proofs.lemmas.Iterator.Search.{any_from_yields_List}
use Rattle.answer.specs.Tests.{isnt, either}
use lib.Dec.{eqb}
use Rattle.session.specs.Entries.{entry_of}
use Rattle.session.proofs.KeySearch.{unknown_any}
use Rattle.session.proofs.keys.ResolvedNodeKeys.any_algorithm_unknown.Goals as goal

pub returns : goal.returns
unfolding entry_of isnt either
returns c =
    let ls = c.args.self.now.entries.now in
    any_from_yields_List (λ l. isnt (either (eqb (entry_of l).algorithm 1) (eqb (entry_of l).algorithm 2))) _ _ _ c.any.ensures.ran (YieldsList-from_slice ls (cc)) (λ x b q k. search (rules, tests))
    ∙ sym (unknown_any ls)
