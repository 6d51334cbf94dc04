-- What is a byte: products in GF(2^8), round constants and the S-boxes. Assumes nothing.
use Prim.Native.Nat.{ℕ, zero, suc, ◌*◌, ◌/◌, ◌%◌, ◌<◌}
use native.Mathlib.Omega.{arith}
use lib.Dec.{lit<}
use lib.Bits.{bit_xor}
use Rattle.cipher.specs.Bytes.{tab}
use Rattle.cipher.specs.Fips197.{xtime, if_bit, add_times, ◌•◌, times_squares, inverse, from_bits, affine, s_box, inv_affine, inv_s_box, power}
use Rattle.cipher.proofs.Xor.{xor_byte}

pub xtime_byte : (b : ℕ) → xtime b < 256
unfolding xtime
xtime_byte b = xor_byte (b * 2 % 256) (b / 128 % 2 * 0x1b) (omega arith) (omega arith)

pub power_byte : (n : ℕ) → power n < 256
unfolding power
power_byte zero = lit< tt
power_byte (suc n) = xtime_byte (power n)

if_bit_byte : (i : ℕ) {x y : ℕ} → x < 256 → y < 256 → if_bit i x y < 256
unfolding if_bit
if_bit_byte zero h k = k
if_bit_byte (suc i) h k = h

add_times_byte : (n a b sum : ℕ) → b < 256 → sum < 256 → add_times n a b sum < 256
unfolding add_times
add_times_byte zero a b sum h k = k
add_times_byte (suc n) a b sum h k =
    add_times_byte n (a / 2) (xtime b) (if_bit (a % 2) (bit_xor sum b) sum) (xtime_byte b) (if_bit_byte (a % 2) (xor_byte sum b k h) k)

pub times_byte : (a b : ℕ) → b < 256 → a • b < 256
unfolding ◌•◌
times_byte a b h = add_times_byte 8 a b 0 h (lit< tt)

times_squares_byte : (n b product : ℕ) → b < 256 → product < 256 → times_squares n b product < 256
unfolding times_squares
times_squares_byte zero b product h k = k
times_squares_byte (suc n) b product h k = times_squares_byte n (b • b) (product • (b • b)) (times_byte b b h) (times_byte product (b • b) (times_byte b b h))

pub inverse_byte : (b : ℕ) → b < 256 → inverse b < 256
unfolding inverse
inverse_byte b h = times_squares_byte 7 b 1 h (lit< tt)

pub s_box_byte : (x : ℕ) → s_box x < 256
unfolding s_box affine from_bits tab
s_box_byte x = omega arith

pub inv_affine_byte : (x : ℕ) → inv_affine x < 256
unfolding inv_affine from_bits tab
inv_affine_byte x = omega arith

pub inv_s_box_byte : (x : ℕ) → inv_s_box x < 256
unfolding inv_s_box
inv_s_box_byte x = inverse_byte (inv_affine x) (inv_affine_byte x)
