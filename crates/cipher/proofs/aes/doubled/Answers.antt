-- `doubled` meets its contract: the highest bit of a byte is what is left of it after seven places. Assumes nothing.
use mathlib.Core.Path.{◌≡◌, ap}
use Prim.Native.Nat.{ℕ, ◌*◌, ◌/◌, ◌%◌}
use lib.Bits.{bit_xor}
use native.Mathlib.Omega.{arith}
use Rattle.cipher.specs.Fips197.{xtime}
use Rattle.cipher.proofs.aes.doubled.Goals as goal

pub returns : goal.returns
unfolding xtime
returns c =
    let x = c.args.x in
    let e : x / 128 ≡ x / 128 % 2 = omega arith in
    ap (λ (y : ℕ). bit_xor (x * 2 % 256) (y * 0x1b)) e
