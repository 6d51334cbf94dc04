use mathlib.Core.Path.{◌≡◌}
use Prim.Native.Nat.{◌+◌}
use native.Mathlib.Omega.{arith}
use Rattle.frame.specs.Padding.{pad_count}
use Rattle.frame.proofs.DesSeals.{padded_front, padded_length}
use Rattle.frame.proofs.des.pad_to_des_block_size.Goals as goal

pub slice_bounds-fill-end : goal.slice_bounds-fill-end
slice_bounds-fill-end c = omega (arith, padded_length c.args.len, c.next_multiple_of-end.ensures.value)

pub returns : goal.returns
returns c =
    let e : c.next_multiple_of-end.result ≡ c.args.len + pad_count c.args.len = omega (arith, padded_length c.args.len, c.next_multiple_of-end.ensures.value) in
    (e, omega arith, padded_front c.args.out.now _ c.args.len _ c.requires e (c.fill.ensures.after (λ y h. h)))
