use Rattle.std.proofs.Common.{◌≡◌, refl, ◌∙◌, arith}
use Rattle.answer.specs.Outcome.{choose}
use Rattle.session.proofs.Searches.{searched_few}
use Rattle.felica_secure.proofs.PackedParts.{packed_unpadded}
use Rattle.felica_secure.proofs.keys.felica_search_key.Goals as goal
use Rattle.felica_secure.proofs.keys.felica_search_key.Goals.{then-search, else-search}

pub overflow_cast-search : goal.overflow_cast-search
overflow_cast-search c =
    let k = rw c.in-Ok.is at c.search_key.ensures in
    omega (arith, k.looked, searched_few c.args.keys.now c.args.node c.args.algorithm)

pub returns-after-search : goal.returns-after-search
unfolding choose
returns-after-search c =
    let k = rw c.in-Ok.is at c.search_key.ensures in
    let mark : c.if-search.mark ≡ choose c.in-Ok.search.found c.args.algorithm 0 = elim c.if-search.branch [
      | then-search w ↦ rw (w.if-search.true) w.mark-is
      | else-search w ↦ rw (w.if-search.false) w.mark-is
    ] in
    c.pack_all.ensures ∙ rw (mark, ← k.number, ← k.algorithm_is, ← k.looked) refl

pub returns-in-Err : goal.returns-in-Err
returns-in-Err c =
    let k = rw c.in-Err.is at c.search_key.ensures in
    rw (← k.number, ← k.algorithm_is, ← k.looked) (c.pack.ensures ∙ packed_unpadded _ 0 0 0 0 refl)
