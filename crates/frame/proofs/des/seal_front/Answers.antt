use mathlib.Core.Path.{◌≡◌}
use Prim.Native.Nat.{◌+◌, ◌-◌}
use native.Mathlib.Omega.{arith}
use lib.ListN.{length, take}
use Rattle.frame.specs.Padding.{pad}
use Rattle.answer.proofs.Pieces.{placed_next}
use Rattle.frame.proofs.DesSeals.{length_padded, sealed_front}
use Rattle.frame.proofs.AesSeals.{with_part}
use Rattle.frame.proofs.Fronts.{accepts_front}
use Rattle.frame.proofs.Pads.{pad_count_whole}
use borrow.Author.Rules.{rules}
use Rattle.frame.proofs.des.seal_front.Goals as goal

pub unwrap-requires : goal.unwrap-requires
unwrap-requires c =
    let len = c.args.len in
    let r = c.pad_to_des_block_size-padded.result.end in
    accepts_front 8 (r + 8) (with_part c.pad_to_des_block_size-padded.new.out r (r + 8 - r) c.copy_from_slice.new.self) _ c.encrypt_des_cbc_zero_iv.ensures.ok (omega (arith, c.copy_from_slice.auto.self)) (rw c.pad_to_des_block_size-padded.ensures.0 (omega (arith, pad_count_whole len)))

pub returns : goal.returns
returns c =
    let o = c.args.out.now in
    let len = c.args.len in
    let r = c.pad_to_des_block_size-padded.result.end in
    let s = c.pad_to_des_block_size-padded.new.out in
    let m = c.calculate_command_mac_des-mac.result in
    let end = c.pad_to_des_block_size-padded.ensures.0 in
    let es = c.pad_to_des_block_size-padded.ensures.2 in
    let lm : length m ≡ 8 = omega arith in
    let e2 = placed_next (pad (take len o)) o s r (r + 8 - r) (length_padded c.args.code len r c.args.key o c.requires end) (omega arith) es m _ (omega arith) c.copy_from_slice.ensures.after in
    let q = sealed_front c.args.code len r c.args.key o c.requires end s m _ _ es c.calculate_command_mac_des-mac.ensures lm e2 c.encrypt_des_cbc_zero_iv.ensures.after c.encrypt_des_cbc_zero_iv.auto.data in
    record { front = (search rules, q.0, q.1); padding = c.pad_to_des_block_size-padded.ensures.1 }
