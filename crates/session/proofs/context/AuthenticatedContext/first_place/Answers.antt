use Rattle.std.proofs.Common.{rules, tests}
use Rattle.std.proofs.lemmas.Iterator.{YieldsList-from_slice}
use Rattle.std.proofs.lemmas.Iterator.Search.{position_from_yields_List}
use lib.Dec.{eqb}
use Rattle.answer.specs.Number.{number_of}
use Rattle.session.proofs.Nodes.{first_place_lem}
use Rattle.session.proofs.context.AuthenticatedContext.first_place.Goals as goal

pub returns : goal.returns
returns c =
    let p = position_from_yields_List (λ b. eqb (number_of b) c.args.node) _ _ c.position.result c.position.ensures.ran (YieldsList-from_slice _ c.iter.ensures.rest) (λ x b q k. search (rules, tests)) in
    first_place_lem c.args.node c.args.self.now.nodes c.position.result (rw c.as_chunks.ensures.front at p)
