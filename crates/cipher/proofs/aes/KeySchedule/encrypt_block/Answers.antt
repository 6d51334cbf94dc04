use mathlib.Core.Path.{◌≡◌, refl, ap, ◌∙◌}
use native.Mathlib.Omega.{arith}
use lib.ListN.{length}
use Rattle.cipher.specs.Fips197.{rounds}
use Rattle.cipher.proofs.AesRounds.{key_at, key_between, rounds_none, rounds_more, rounds_done}
use Rattle.cipher.proofs.aes.KeySchedule.encrypt_block.Goals as goal

pub loop-key-init : goal.loop-key-init
loop-key-init c =
    let l : length c.self.inside.round_keys ≡ 11 = omega arith in
    rounds_none _ _ _ _ _ c.load.ensures (key_at _ c.self.view_is l 0 _ (omega arith)) c.add_round_key-state.ensures

pub loop-key-preserved : goal.loop-key-preserved
loop-key-preserved c =
    let l : length c.self.inside.round_keys ≡ 11 = omega arith in
    let i = c.loop-key.key-index in
    rounds_more _ _ _ _ _ _ i c.loop-key.invariant (key_between _ c.self.view_is l i _ _ refl (omega arith)) c.sub_shift_mix.ensures c.add_round_key-state-in-loop-key.ensures

pub returns : goal.returns
returns c =
    let l : length c.self.inside.round_keys ≡ 11 = omega arith in
    let n : c.loop-key.key-index ≡ 9 = omega arith in
    c.store.ensures ∙ rounds_done _ _ _ _ _ _ (c.loop-key.invariant ∙ ap (rounds _ _) n) c.sub_shift.ensures (key_at _ c.self.view_is l 10 _ (omega arith)) c.add_round_key.ensures
