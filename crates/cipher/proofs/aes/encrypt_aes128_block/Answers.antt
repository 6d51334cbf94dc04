use mathlib.Core.Path.{◌≡◌, ap, ◌∙◌}
use native.Mathlib.Omega.{arith}
use Rattle.cipher.specs.Fips197.{rounds, aes_encrypt}
use Rattle.cipher.proofs.AesRounds.{rounds_none, rounds_more, rounds_done}
use Rattle.cipher.proofs.aes.encrypt_aes128_block.Goals as goal

pub loop-init : goal.loop-init
loop-init c = (c.first-key.ensures, rounds_none _ _ _ _ _ c.load.ensures c.first-key.ensures.words c.add_round_key-state.ensures)

pub loop-preserved : goal.loop-preserved
loop-preserved c =
    let v = c.loop.invariant in
    let next = c.next-key.ensures _ _ (omega arith) v.0 in
    (next, rounds_more _ _ _ _ _ _ c.loop.counter v.1 next.words c.sub_shift_mix.ensures c.add_round_key-state-in-loop.ensures)

pub returns : goal.returns
unfolding aes_encrypt
returns c =
    let v = c.loop.invariant in
    let n : c.loop.counter ≡ 9 = omega arith in
    let last = c.next-last.ensures _ 9 (omega arith) (rw n at v.0) in
    c.store.ensures ∙ rounds_done _ _ _ _ _ _ (v.1 ∙ ap (rounds _ _) n) c.sub_shift.ensures last.words c.add_round_key.ensures
