-- The numbers of the code's table SP follow their rule. Assumes nothing.
use mathlib.Core.Bool.{Bool}
use mathlib.Core.Path.{◌≡◌, refl}
use Prim.Native.Nat.{ℕ, ◌/◌, ◌%◌, ◌<◌}
use lib.Dec.{eqb, eqb→eq}
use lib.ListN.{length, get_or}
use Rattle.cipher.specs.declared.des.TheConstants.{SP}
use Rattle.cipher.specs.Bits.{bool, digit, bits, num, num_from}
use Rattle.cipher.specs.Fips46.{select, left_shift, substitute, P, S1, S2, S3, S4, S5, S6, S7, S8}
use Rattle.cipher.specs.inner.DesTables.{among, box, sp_bits}
use Rattle.cipher.proofs.Table.{at}

right : ℕ → ℕ → Bool
right i x = eqb x (num (sp_bits (i / 64) (i % 64)))

-- entry 64 j + x is P of what S(j + 1) makes of x, in its place among the eight, turned left by one
pub sp_entry : (i : ℕ) → i < 512 → get_or SP i 0 ≡ num (sp_bits (i / 64) (i % 64))
unfolding right bool digit bits num num_from select left_shift substitute P S1 S2 S3 S4 S5 S6 S7 S8 among box sp_bits
sp_entry i h = eqb→eq (get_or SP i 0) (num (sp_bits (i / 64) (i % 64))) (at right SP tt i h)

-- the table has 512 entries, and each follows the rule
pub sp_table_lem : (length SP ≡ 512) × ((i : ℕ) → i < 512 → get_or SP i 0 ≡ num (sp_bits (i / 64) (i % 64)))
sp_table_lem = (refl, sp_entry)
