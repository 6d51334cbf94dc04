use Rattle.std.proofs.Common.{not, rules, tests}
use Rattle.std.proofs.lemmas.Iterator.Consumers.{YieldsList-from_filter, YieldsList-at}
use Rattle.session.specs.Entries.{nodes}
use Rattle.session.specs.ServiceCode.{key_free}
use Rattle.session.proofs.NodeLists.{YieldsList-from_nodes, bearing_filter, last_from, target_found}
use Rattle.session.proofs.keys.Inputs.target_node.Goals as goal

pub returns : goal.returns
returns c =
    let areas = c.args.self.now.areas.now in
    let services = c.args.self.now.services.now in
    let area = last_from _ _ c.last-area.ensures.ran (YieldsList-from_nodes areas c.of.ensures) in
    let service = last_from _ _ c.last-service.ensures.ran (YieldsList-from_nodes services c.of-2.ensures) in
    let keyed = last_from _ _ c.last-keyed.ensures.ran (YieldsList-from_filter _ (λ s. not (key_free s)) (YieldsList-at c.filter.ensures.source (YieldsList-from_nodes services c.of-3.ensures)) c.filter.ensures.closure (λ x r q k. search (rules, tests))) in
    let b = bearing_filter (nodes services) in
    target_found (nodes areas) (nodes services) _ (cc)
