-- NIST SP 800-38B: the CMAC mode over any block cipher, with blocks of w bytes. Section numbers are the paper's. Assumes nothing.
use Rattle.std.specs.Prelude.{ℕ, zero, suc, ◌+◌, ◌-◌, ◌*◌, ◌/◌, ◌%◌, List, [], ◌∷◌, ◌++◌, length, take, drop, get_or, replicate}
use Rattle.cipher.specs.Bytes.{tab, ◌⊕◌}
use Rattle.cipher.specs.Sp80038a.{blocks}

-- x << 1, of w bytes
unfoldable pub shift_left : ℕ → List ℕ → List ℕ
shift_left w x = tab w (λ i. get_or x i 0 * 2 % 256 + get_or x (i + 1) 0 / 128)

-- 6.1, steps 2 and 3: x << 1, with Rb added where the highest bit of x is 1. Rb, of b = 8w bits, is 0 but for its last byte (5.3)
unfoldable pub double : ℕ → ℕ → List ℕ → List ℕ
double w Rb x = shift_left w x ⊕ (replicate (w - 1) 0 ++ (get_or x 0 0 / 128 * Rb ∷ []))

-- 5.3: R128
abbrev pub R128 : ℕ
R128 = 0x87

module _ (CIPH : List ℕ → List ℕ) (w Rb : ℕ) where
  -- 6.1: L = CIPH(0), and the subkeys
  unfoldable pub K1 : List ℕ
  K1 = double w Rb (CIPH (replicate w 0))

  unfoldable pub K2 : List ℕ
  K2 = double w Rb K1

  -- 6.2, step 4: Mn from the last block: complete, or followed by one bit 1 and bits 0. d is how many bytes it lacks
  unfoldable pub last_block : ℕ → List ℕ → List ℕ
  last_block zero m = K1 ⊕ m
  last_block (suc d) m = K2 ⊕ (m ++ 0x80 ∷ replicate d 0)

  -- 6.2, steps 5 and 6: Ci = CIPH(Ci-1 ⊕ Mi), from C over n whole blocks and then the last one
  unfoldable pub mac_from : List ℕ → ℕ → List ℕ → List ℕ
  mac_from C zero m = CIPH (C ⊕ last_block (w - length m) m)
  mac_from C (suc n) m = mac_from (CIPH (C ⊕ take w m)) n (drop w m)

  -- 6.2: n is the number of blocks, 1 for the empty string
  unfoldable pub cmac : List ℕ → List ℕ
  cmac m = mac_from (replicate w 0) (blocks w (length m) - 1) m
