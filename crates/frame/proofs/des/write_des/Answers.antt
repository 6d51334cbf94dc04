use mathlib.Core.Path.{◌≡◌}
use Prim.Native.Nat.{◌-◌, ◌≤◌}
use native.Mathlib.Omega.{arith}
use borrow.Author.Rules.{rules}
use lib.ListN.{length, take, drop, length-drop}
use Rattle.frame.specs.DesFrame.{des_size, header}
use Rattle.answer.proofs.Outputs.{copied_behind}
use Rattle.frame.proofs.DesOpens.{rest_part}
use Rattle.frame.proofs.DesSeals.{size_most, length_header, written_des}
use Rattle.frame.proofs.des.write_des.Goals as goal

pub write-requires : goal.write-requires
unfolding des_size
write-requires c = search rules

pub slice_bounds-copy-count : goal.slice_bounds-copy-count
unfolding des_size
slice_bounds-copy-count c = search rules

pub slice_bounds-copy-start : goal.slice_bounds-copy-start
unfolding des_size
slice_bounds-copy-start c = search rules

pub seal_front-requires : goal.seal_front-requires
unfolding des_size
seal_front-requires c = search rules

pub returns : goal.returns
unfolding des_size
returns c =
    let h = c.args.head in
    let o = c.args.out.now in
    let p = c.args.payload.now in
    let s = c.write.new.out in
    let six : length h.transaction_id ≡ 6 = omega arith in
    let f : length p ≤ length (take (length s - 8) (drop 8 s)) = rw (rest_part s 8, length-drop) (omega arith) in
    let e = copied_behind (header h.transaction_number h.transaction_id) o s 8 (length_header h.transaction_number h.transaction_id six) c.write.ensures p (length s - 8) f _ c.copy.ensures in
    let w = written_des c.args.code h.transaction_number _ c.args.key h.transaction_id p o _ _ six e c.seal_front.ensures.front in
    (w.0, omega (arith, w.0, size_most _ c.requires.payload_len_bound), w.1, w.2, c.seal_front.ensures.padding)
