use mathlib.Core.Path.{◌≡◌, ap, ◌∙◌}
use Prim.Native.Nat.{◌<◌}
use native.Mathlib.Omega.{arith}
use lib.ListN.{length, take, drop, length-reverse}
use Rattle.std.proofs.lemmas.List.{length_push}
use Rattle.std.proofs.lemmas.Iterator.Adapters.{YieldsList-from_rev_slice}
use Rattle.std.proofs.lemmas.Iterator.Consumers.{YieldsList-turn, YieldsList-end}
use Rattle.cipher.specs.Fips197.{inv_rounds}
use Rattle.cipher.specs.inner.AesTables.{bytes_of}
use Rattle.cipher.proofs.AesRounds.{key_at, key_back, length_between, inv_none, inv_more, inv_done}
use Rattle.cipher.proofs.aes.KeySchedule.decrypt_block.Goals as goal

pub loop-key-init : goal.loop-key-init
loop-key-init c =
    let l : length c.self.inside.round_keys ≡ 11 = omega arith in
    inv_none _ _ _ _ _ c.load.ensures (key_at _ c.self.view_is l 10 _ (omega arith)) c.add_round_key-state.ensures

pub loop-key-preserved : goal.loop-key-preserved
loop-key-preserved c =
    let ks = c.self.inside.round_keys in
    let l : length ks ≡ 11 = omega arith in
    let y = c.loop-key.yielded in
    let k = c.in-Some.key in
    let t = YieldsList-turn (YieldsList-from_rev_slice (take 9 (drop 1 ks)) cc) y _ c.loop-key.yielded_by _ _ k c.in-Some.is c.next.ensures.steps in
    let n : length y < 9 = omega (arith, t.0, length-reverse (take 9 (drop 1 ks)), length_between ks c.self.view_is l) in
    rw (length_push y k)
    (inv_more _ _ _ _ _ _ _ (length y) c.loop-key.invariant (ap bytes_of t.1 ∙ key_back ks c.self.view_is l (length y) k.now n) c.inv_shift_sub.ensures c.add_round_key.ensures
    c.inv_mix_columns-state.ensures)

pub returns : goal.returns
returns c =
    let ks = c.self.inside.round_keys in
    let l : length ks ≡ 11 = omega arith in
    let t = YieldsList-end (YieldsList-from_rev_slice (take 9 (drop 1 ks)) cc) c.loop-key.yielded _ c.loop-key.yielded_by _ _ c.in-None.is c.next.ensures.steps in
    let n : length c.loop-key.yielded ≡ 9 = omega (arith, t.1, length-reverse (take 9 (drop 1 ks)), length_between ks c.self.view_is l) in
    c.store.ensures ∙ inv_done _ _ _ _ _ _ (c.loop-key.invariant ∙ ap (inv_rounds _ _) n) c.inv_shift_sub-2.ensures (key_at _ c.self.view_is l 0 _ (omega arith)) c.add_round_key-2.ensures
