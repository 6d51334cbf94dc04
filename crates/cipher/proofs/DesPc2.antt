-- The numbers of the code's table PC2_ENTRIES follow their rule. Assumes nothing.
use mathlib.Core.Bool.{Bool}
use mathlib.Core.Path.{◌≡◌, refl}
use Prim.Native.Nat.{ℕ, ◌/◌, ◌%◌, ◌<◌}
use lib.Dec.{eqb, eqb→eq}
use lib.ListN.{length, get_or}
use Rattle.cipher.specs.declared.des.TheConstants.{PC2_ENTRIES}
use Rattle.cipher.specs.Bits.{bool, digit, bits, num, num_from}
use Rattle.cipher.specs.Fips46.{select, PC2}
use Rattle.cipher.specs.inner.DesTables.{among, packed_places, places, pc2_bits}
use Rattle.cipher.proofs.Table.{at}

right : ℕ → ℕ → Bool
right i x = eqb x (num (pc2_bits (i / 128) (i % 128)))

-- entry 128 m + x is the part that the bits x, as the m-th seven bits of C and D, have in a half of a round key
pub pc2_entry : (i : ℕ) → i < 1024 → get_or PC2_ENTRIES i 0 ≡ num (pc2_bits (i / 128) (i % 128))
unfolding right bool digit bits num num_from select PC2 among packed_places places pc2_bits
pc2_entry i h = eqb→eq (get_or PC2_ENTRIES i 0) (num (pc2_bits (i / 128) (i % 128))) (at right PC2_ENTRIES tt i h)

-- the table has 1,024 entries, and each follows the rule
pub pc2_table_lem : (length PC2_ENTRIES ≡ 1024) × ((i : ℕ) → i < 1024 → get_or PC2_ENTRIES i 0 ≡ num (pc2_bits (i / 128) (i % 128)))
pc2_table_lem = (refl, pc2_entry)
