use mathlib.Core.Path.{◌≡◌, ap, ◌∙◌}
use mathlib.Core.List.{List, []}
use Prim.Native.Nat.{ℕ, ◌+◌, ◌-◌, ◌*◌, ◌/◌}
use native.Mathlib.Omega.{arith}
use lib.Dec.{lit<}
use lib.ListN.{length, get_or}
use Rattle.std.specs.Simd.{first_chunks}
use Rattle.cipher.specs.Fips197.{cipher}
use Rattle.cipher.specs.Sp80038b.{last_block, R128}
use Rattle.cipher.proofs.Macs.{front_block, mac_start_lem, mac_step, mac_done}
use Rattle.cipher.proofs.cmac.mac_from.Goals as goal

pub loop-block-init : goal.loop-block-init
loop-block-init c = mac_start_lem _ 16 R128 (lit< tt) _ _

pub loop-block-preserved : goal.loop-block-preserved
loop-block-preserved c =
    let s = c.args.s.now in
    let k = c.saturating_sub.result / 16 in
    let i = c.loop-block.block-index in
    let f = c.split_at.ensures in
    let l : length c.as_chunks.result.0.now ≡ k = omega (arith, c.as_chunks.ensures.front_len, f.front_len) in
    let b : c.as_chunks.result.0.now ≡ first_chunks 16 k c.split_at.result.0.now = c.as_chunks.ensures.front ∙ ap (λ (n : ℕ). first_chunks 16 n c.split_at.result.0.now) (omega (arith, f.front_len)) in
    let e : 16 * (i + 1) ≡ 16 * i + 16 = omega arith in
    rw e
    (mac_step (cipher c.args.keys.now) 16 R128 (lit< tt) c.loop-block.invariant (omega (arith, c.saturating_sub.ensures)) _ _ _
    (ap (λ (t : List (List ℕ)). get_or t i []) (b ∙ ap (first_chunks 16 k) f.front) ∙ front_block k i s (omega arith)) c.xor_blocks.ensures c.encrypt_block-state.ensures)

pub last_block-requires : goal.last_block-requires
last_block-requires c = omega (arith, c.split_at.ensures.back_len, c.saturating_sub.ensures)

pub returns : goal.returns
returns c =
    let s = c.args.s.now in
    let k = c.saturating_sub.result / 16 in
    let f = c.split_at.ensures in
    let l : length c.as_chunks.result.0.now ≡ k = omega (arith, c.as_chunks.ensures.front_len, f.front_len) in
    let i : 16 * c.loop-block.block-index ≡ k * 16 = omega (arith, c.loop-block.auto.block-index-end) in
    let last = c.last_block.ensures ∙ ap (λ (m : List ℕ). last_block (cipher c.args.keys.now) 16 R128 (16 - length m) m) f.back in
    mac_done (cipher c.args.keys.now) 16 R128 (lit< tt) (rw i at c.loop-block.invariant) (omega (arith, c.saturating_sub.ensures)) _ _ _ last c.xor_blocks-2.ensures
    c.encrypt_block.ensures
