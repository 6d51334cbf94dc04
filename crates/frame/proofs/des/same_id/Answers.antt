use borrow.Author.Rules.{rules}
use native.Mathlib.Omega.{arith}
use Rattle.frame.proofs.Ids.{same_ids}
use Rattle.frame.proofs.des.same_id.Goals as goal

pub returns : goal.returns
returns c =
    let a = c.args in
    let g = c.well_formed in
    same_ids a.x a.y c.fit.result c.fit-2.result _ _ (omega arith) (omega arith) c.fit.ensures.0 c.fit-2.ensures.0 c.from_le_bytes.ensures c.from_le_bytes-2.ensures (omega arith) (omega arith) (λ i. search rules) (λ i. search rules)
