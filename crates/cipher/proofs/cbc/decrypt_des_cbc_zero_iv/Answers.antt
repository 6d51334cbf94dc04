use mathlib.Core.Path.{refl, ◌∙◌}
use native.Mathlib.Omega.{arith}
use lib.Dec.{lit<}
use lib.ListN.{replicate}
use Rattle.cipher.specs.inner.DesWith.{des_back_with}
use Rattle.cipher.specs.Fips46.{des_decrypt}
use Rattle.cipher.specs.Sp80038a.{cbc_decrypt}
use Rattle.cipher.proofs.Chains.{run_start, run_done}
use Rattle.cipher.proofs.DesWiths.{back_with_schedule}
use Rattle.cipher.proofs.Modes.{back_turn, on_whole_lem, off_whole}
use Rattle.cipher.proofs.cbc.decrypt_des_cbc_zero_iv.Goals as goal

pub returns-then-data-ne0 : goal.returns-then-data-ne0
returns-then-data-ne0 c = let w = off_whole 8 _ _ c.if-data-ne0.true in record { ok = w.0; after = w.1 }

pub loop-at-init : goal.loop-at-init
loop-at-init c = record { boundary = refl; run = run_start _ _ 8 _ _ }

pub loop-at-preserved : goal.loop-at-preserved
loop-at-preserved c =
    let v = c.loop-at.invariant in
    let e = v.run.same in
    record {
      boundary = omega arith;
      run = back_turn (des_back_with c.new-keys.result.keys) 8 (lit< tt) (omega arith) _ _ _ _ c.load-sealed.ensures (omega arith) c.store.ensures c.decrypt-output.ensures c.xor_blocks.ensures v.run;
    }

pub returns-else-data-ne0 : goal.returns-else-data-ne0
unfolding cbc_decrypt
returns-else-data-ne0 c =
    let v = c.loop-at.invariant in
    let a = c.args in
    let w = on_whole_lem 8 (cbc_decrypt (des_decrypt a.key) 8 (replicate 8 0)) a.«data».now c.if-data-ne0.false in
    record { ok = w.0; after = run_done _ _ 8 (lit< tt) v.run (omega arith) ∙ rw (back_with_schedule _ _ c.new-keys.ensures) w.1 }

-- the next step would leave the range
pub returns-else-data-ne0-2 : goal.returns-else-data-ne0-2
unfolding cbc_decrypt
returns-else-data-ne0-2 c =
    let v = c.loop-at.invariant in
    let e = v.run.same in
    let a = c.args in
    let next = back_turn (des_back_with c.new-keys.result.keys) 8 (lit< tt) (omega arith) _ _ _ _ c.load-sealed.ensures (omega arith) c.store.ensures c.decrypt-output.ensures c.xor_blocks.ensures v.run in
    let f = next.same in
    let w = on_whole_lem 8 (cbc_decrypt (des_decrypt a.key) 8 (replicate 8 0)) a.«data».now c.if-data-ne0.false in
    record { ok = w.0; after = run_done _ _ 8 (lit< tt) next (omega arith) ∙ rw (back_with_schedule _ _ c.new-keys.ensures) w.1 }
