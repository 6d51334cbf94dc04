-- Of this crate alone: DES under round keys that are at hand, packed as the code packs them (DesTables), and the round keys from the last to the
-- first. Assumes nothing.
use Rattle.std.specs.Prelude.{ℕ, zero, suc, ◌-◌, Bool, List, [], ◌∷◌, ◌++◌, map, reverse, get_or}
use Rattle.cipher.specs.Bits.{to_bits, to_bytes}
use Rattle.cipher.specs.inner.DesTables.{key_bits}
use Rattle.cipher.specs.Fips46.{select, left_shift, shifts, PC2, crypt}

unfoldable pub des_with : List ℕ → List ℕ → List ℕ
des_with ks block = to_bytes 8 (crypt (map key_bits ks) (to_bits block))

-- with the last round key first
unfoldable pub des_back_with : List ℕ → List ℕ → List ℕ
des_back_with ks block = to_bytes 8 (crypt (reverse (map key_bits ks)) (to_bits block))

-- the round keys of the first n rounds, the last of them first, from Cn and Dn
unfoldable pub keys_back : ℕ → List Bool → List Bool → List (List Bool)
keys_back zero c d = []
keys_back (suc n) c d =
    select PC2 (c ++ d) ∷ keys_back n (left_shift (28 - get_or shifts n 0) c) (left_shift (28 - get_or shifts n 0) d)
