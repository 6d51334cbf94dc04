-- From no standard: a block encrypted under each block of a string in turn, as a key, and the way back; over any block cipher, with keys of w
-- bytes. FeliCa's DES MAC and its chains of keys are such folds. Bytes after the last whole key play no part. Assumes nothing.
use Rattle.std.specs.Prelude.{ℕ, zero, suc, ◌/◌, List, length, take, drop}

-- CIPH key block
module _ (CIPH : List ℕ → List ℕ → List ℕ) (w : ℕ) where
  unfoldable pub under_from : List ℕ → ℕ → List ℕ → List ℕ
  under_from s zero keys = s
  under_from s (suc n) keys = under_from (CIPH (take w keys) s) n (drop w keys)

  -- the first key first
  unfoldable pub under_each : List ℕ → List ℕ → List ℕ
  under_each keys s = under_from s (length keys / w) keys

  unfoldable pub back_from : List ℕ → ℕ → List ℕ → List ℕ
  back_from s zero keys = s
  back_from s (suc n) keys = CIPH (take w keys) (back_from s n (drop w keys))

  -- the last key first
  unfoldable pub under_each_back : List ℕ → List ℕ → List ℕ
  under_each_back keys s = back_from s (length keys / w) keys
