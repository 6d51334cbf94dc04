-- docs/RULES.md, Corners (primitives.rs): a string that is not whole blocks of 8 bytes gains what is missing, and each byte added is their count.
-- Assumes nothing.
use Rattle.std.specs.Prelude.{ℕ, ◌-◌, ◌%◌, List, ◌++◌, length, replicate}

-- the count of bytes added to n
unfoldable pub pad_count : ℕ → ℕ
pad_count n = (8 - n % 8) % 8

unfoldable pub pad : List ℕ → List ℕ
pad l = l ++ replicate (pad_count (length l)) (pad_count (length l))
