use native.Mathlib.Omega.{arith}
use Rattle.cipher.proofs.Modes.{ofb_start, ofb_step, ofb_done}
use Rattle.cipher.proofs.ofb.apply.Goals as goal

pub loop-at-init : goal.loop-at-init
loop-at-init c = ofb_start _ _ _

pub loop-at-preserved : goal.loop-at-preserved
loop-at-preserved c =
    let same = c.loop-at.invariant.run.same in
    ofb_step _ _ _ c.loop-at.invariant _ _ (omega arith) c.encrypt_block-output.ensures (omega arith) c.add_at.ensures

pub returns : goal.returns
returns c =
    let same = c.loop-at.invariant.run.same in
    let done = ofb_done _ _ _ c.loop-at.invariant (omega arith) in
    record { data_after = done.0; next_input = done.1 }

-- the next step would leave the range
pub returns-2 : goal.returns-2
returns-2 c =
    let same = c.loop-at.invariant.run.same in
    let next = ofb_step _ _ _ c.loop-at.invariant _ _ (omega arith) c.encrypt_block-output.ensures (omega arith) c.add_at.ensures in
    let same' = next.run.same in
    let done = ofb_done _ _ _ next (omega arith) in
    record { data_after = done.0; next_input = done.1 }
