use native.Mathlib.Omega.{arith}
use Rattle.frame.specs.DesFrame.{des_size}
use Rattle.frame.specs.Padding.{pad_count}
use Rattle.frame.proofs.des.size_des.Goals as goal

pub returns : goal.returns
unfolding des_size pad_count
returns c = (c.if-n-gt-PAYLOAD_MAX.false, omega (arith, c.next_multiple_of.ensures.value))
