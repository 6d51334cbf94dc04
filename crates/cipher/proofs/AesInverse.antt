-- The inverse cipher undoes the cipher, and the cipher the inverse cipher. Assumes nothing.
use mathlib.Core.Path.{◌≡◌, refl, sym, ap, ap₂, ◌∙◌}
use mathlib.Core.List.{List, [], ◌∷◌, map}
use Prim.Native.Nat.{ℕ, zero, suc, ◌+◌, ◌-◌, ◌/◌, ◌%◌, ◌≤◌}
use native.Mathlib.Nat.{le_of_eq}
use native.Mathlib.Omega.{arith}
use lib.Dec.{T, lit≤}
use lib.ListN.{length, get_or, length-map}
use lib.Bits.{bit_xor}
use Rattle.cipher.specs.Bytes.{Bytes, tab}
use Rattle.cipher.specs.Fips197.{◌•◌, s_box, sub_bytes, cell, shift_rows, mixed, mix_columns, add_round_key, key_expansion, round_key, rounds, cipher, inv_s_box, inv_shift_rows, inv_sub_bytes, inv_mix_columns, inv_rounds, inv_cipher, aes_encrypt, aes_decrypt}
use Rattle.cipher.proofs.Xor.{⊕-twice}
use Rattle.cipher.proofs.ByteLists.{Bytes-tab}
use Rattle.cipher.proofs.Tabulation.{listed, length_tab}
use Rattle.cipher.proofs.Words.{◌◂◌, map_undone}
use Rattle.cipher.proofs.Linear.{Sum, var, ◌⊞◌, product, value, product_value, same, equal}
use Rattle.cipher.proofs.AesTables.{inv_s_box_s_box, s_box_inv_s_box}
use Rattle.cipher.proofs.AesLengths.{key_expansion_long, key_expansion_bytes, round_key_long, added_long, added_bytes, shifted_long, unshifted_long, sub_bytes_bytes, inv_shift_rows_bytes, inv_sub_bytes_bytes, mixed_byte}

-- ---- MixColumns and its inverse: the products with two circulant matrices, whose first rows are a0 a1 a2 a3 and b0 b1 b2 b3

module _ (a0 a1 a2 a3 : ℕ) where
  sum : ℕ → ℕ → ℕ → ℕ → ℕ
  sum x y z v = bit_xor (bit_xor (bit_xor (a0 • x) (a1 • y)) (a2 • z)) (a3 • v)

  sum_of : Sum → Sum → Sum → Sum → Sum
  sum_of s t u v = ((product a0 s ⊞ product a1 t) ⊞ product a2 u) ⊞ product a3 v

  sum_value : (s t u v : Sum) (ρ : List ℕ) → value (sum_of s t u v) ρ ≡ sum (value s ρ) (value t ρ) (value u ρ) (value v ρ)
  unfolding sum sum_of
  sum_value s t u v ρ =
      ap₂ bit_xor (ap₂ bit_xor (ap₂ bit_xor (product_value a0 s ρ) (product_value a1 t ρ)) (product_value a2 u ρ)) (product_value a3 v ρ)

  mixed_by : List ℕ → List ℕ
  mixed_by s = tab 16 (λ i. mixed a0 a1 a2 a3 s (i % 4) (i / 4))

module _ (a0 a1 a2 a3 b0 b1 b2 b3 : ℕ) where
  -- row 0 of the product of the two matrices, times a column of variables
  row_zero : Sum
  row_zero =
      sum_of a0 a1 a2 a3 (sum_of b0 b1 b2 b3 (var 0) (var 1) (var 2) (var 3)) (sum_of b0 b1 b2 b3 (var 1) (var 2) (var 3) (var 0))
      (sum_of b0 b1 b2 b3 (var 2) (var 3) (var 0) (var 1)) (sum_of b0 b1 b2 b3 (var 3) (var 0) (var 1) (var 2))

  module _ (test : T (same row_zero (var 0))) where
    row_undone : (x y z v : ℕ)
        → sum a0 a1 a2 a3 (sum b0 b1 b2 b3 x y z v) (sum b0 b1 b2 b3 y z v x) (sum b0 b1 b2 b3 z v x y) (sum b0 b1 b2 b3 v x y z) ≡ x
    unfolding row_zero
    row_undone x y z v =
        let ρ : List ℕ = x ∷ y ∷ z ∷ v ∷ [] in
        let inner : Sum → Sum → Sum → Sum → Sum = sum_of b0 b1 b2 b3 in
        let e0 = sum_value b0 b1 b2 b3 (var 0) (var 1) (var 2) (var 3) ρ in
        let e1 = sum_value b0 b1 b2 b3 (var 1) (var 2) (var 3) (var 0) ρ in
        let e2 = sum_value b0 b1 b2 b3 (var 2) (var 3) (var 0) (var 1) ρ in
        let e3 = sum_value b0 b1 b2 b3 (var 3) (var 0) (var 1) (var 2) ρ in
        sym (sum_value a0 a1 a2 a3 (inner (var 0) (var 1) (var 2) (var 3)) (inner (var 1) (var 2) (var 3) (var 0))
        (inner (var 2) (var 3) (var 0) (var 1)) (inner (var 3) (var 0) (var 1) (var 2)) ρ
        ∙ ap₂ (λ (p q : ℕ). sum a0 a1 a2 a3 p q (value (inner (var 2) (var 3) (var 0) (var 1)) ρ) (value (inner (var 3) (var 0) (var 1) (var 2)) ρ)) e0 e1
        ∙ ap₂ (λ (p q : ℕ). sum a0 a1 a2 a3 (sum b0 b1 b2 b3 x y z v) (sum b0 b1 b2 b3 y z v x) p q) e2 e3)
        ∙ equal row_zero (var 0) test ρ

    column_undone : (x y z v : ℕ) {s t : List ℕ} → s ≡ t
        → sum a0 a1 a2 a3 (sum b0 b1 b2 b3 x y z v) (sum b0 b1 b2 b3 y z v x) (sum b0 b1 b2 b3 z v x y) (sum b0 b1 b2 b3 v x y z)
        ∷ sum a0 a1 a2 a3 (sum b0 b1 b2 b3 y z v x) (sum b0 b1 b2 b3 z v x y) (sum b0 b1 b2 b3 v x y z) (sum b0 b1 b2 b3 x y z v)
        ∷ sum a0 a1 a2 a3 (sum b0 b1 b2 b3 z v x y) (sum b0 b1 b2 b3 v x y z) (sum b0 b1 b2 b3 x y z v) (sum b0 b1 b2 b3 y z v x)
        ∷ sum a0 a1 a2 a3 (sum b0 b1 b2 b3 v x y z) (sum b0 b1 b2 b3 x y z v) (sum b0 b1 b2 b3 y z v x) (sum b0 b1 b2 b3 z v x y)
        ∷ s ≡ x ∷ y ∷ z ∷ v ∷ t
    column_undone x y z v e = row_undone x y z v ◂ row_undone y z v x ◂ row_undone z v x y ◂ row_undone v x y z ◂ e

    mixed_undone : (s : List ℕ) → length s ≡ 16 → mixed_by a0 a1 a2 a3 (mixed_by b0 b1 b2 b3 s) ≡ s
    unfolding mixed_by mixed cell tab sum
    mixed_undone s h =
        column_undone (get_or s 0 0) (get_or s 1 0) (get_or s 2 0) (get_or s 3 0) (column_undone (get_or s 4 0) (get_or s 5 0) (get_or s 6 0) (get_or s 7 0)
        (column_undone (get_or s 8 0) (get_or s 9 0) (get_or s 10 0) (get_or s 11 0) (column_undone (get_or s 12 0) (get_or s 13 0) (get_or s 14 0) (get_or s 15 0) refl)))
        ∙ sym (listed 16 s h)

-- one test for each order of the two matrices
inv_mix_mix : (s : List ℕ) → length s ≡ 16 → inv_mix_columns (mix_columns s) ≡ s
unfolding mix_columns inv_mix_columns mixed_by row_zero sum_of
inv_mix_mix s h = mixed_undone 0x0e 0x0b 0x0d 0x09 0x02 0x03 0x01 0x01 tt s h

mix_inv_mix : (s : List ℕ) → length s ≡ 16 → mix_columns (inv_mix_columns s) ≡ s
unfolding mix_columns inv_mix_columns mixed_by row_zero sum_of
mix_inv_mix s h = mixed_undone 0x02 0x03 0x01 0x01 0x0e 0x0b 0x0d 0x09 tt s h

-- ---- SubBytes and ShiftRows

inv_shift_shift : (s : List ℕ) → length s ≡ 16 → inv_shift_rows (shift_rows s) ≡ s
unfolding inv_shift_rows shift_rows cell tab
inv_shift_shift s h = sym (listed 16 s h)

shift_inv_shift : (s : List ℕ) → length s ≡ 16 → shift_rows (inv_shift_rows s) ≡ s
unfolding inv_shift_rows shift_rows cell tab
shift_inv_shift s h = sym (listed 16 s h)

inv_sub_sub : (s : List ℕ) → length s ≡ 16 → Bytes s → inv_sub_bytes (inv_shift_rows (shift_rows (sub_bytes s))) ≡ s
unfolding sub_bytes inv_sub_bytes
inv_sub_sub s h b = ap (map inv_s_box) (inv_shift_shift (map s_box s) (length-map s s_box ∙ h)) ∙ map_undone s_box inv_s_box inv_s_box_s_box s b

sub_inv_sub : (s : List ℕ) → length s ≡ 16 → Bytes s → shift_rows (sub_bytes (inv_sub_bytes (inv_shift_rows s))) ≡ s
unfolding sub_bytes inv_sub_bytes
sub_inv_sub s h b = ap shift_rows (map_undone inv_s_box s_box s_box_inv_s_box (inv_shift_rows s) (inv_shift_rows_bytes s b)) ∙ shift_inv_shift s h

-- ---- the rounds

mix_columns_long : (s : List ℕ) → length (mix_columns s) ≡ 16
unfolding mix_columns
mix_columns_long s = length_tab 16 _

module _ (w : List ℕ) (long : length w ≡ 176) (bytes : Bytes w) where
  key_twice : (s : List ℕ) (n : ℕ) → length s ≡ 16 → n ≤ 10 → add_round_key (add_round_key s (round_key w n)) (round_key w n) ≡ s
  unfolding add_round_key
  key_twice s n h k = ⊕-twice s (round_key w n) (le_of_eq (h ∙ sym (round_key_long w long n k)))

  rounds_long : (s : List ℕ) → length s ≡ 16 → (n : ℕ) → n ≤ 9 → length (rounds w s n) ≡ 16
  unfolding rounds
  rounds_long s h zero k = added_long s w h long 0 (lit≤ tt)
  rounds_long s h (suc n) k = added_long _ w (mix_columns_long _) long (suc n) (omega arith)

  rounds_bytes : (s : List ℕ) → Bytes s → (n : ℕ) → Bytes (rounds w s n)
  unfolding rounds mix_columns
  rounds_bytes s h zero = added_bytes s w h bytes 0
  rounds_bytes s h (suc n) = added_bytes _ w (Bytes-tab 16 _ (λ i. mixed_byte _ _ _ _ _ (sub_bytes_bytes (rounds w s n)) _ _)) bytes (suc n)

  inv_rounds_long : (s : List ℕ) → length s ≡ 16 → (n : ℕ) → length (inv_rounds w s n) ≡ 16
  unfolding inv_rounds inv_mix_columns
  inv_rounds_long s h zero = added_long s w h long 10 (lit≤ tt)
  inv_rounds_long s h (suc n) = length_tab 16 _

  inv_rounds_bytes : (s : List ℕ) → Bytes s → (n : ℕ) → Bytes (inv_rounds w s n)
  unfolding inv_rounds inv_mix_columns
  inv_rounds_bytes s h zero = added_bytes s w h bytes 10
  inv_rounds_bytes s h (suc n) =
      Bytes-tab 16 _ (λ i. mixed_byte _ _ _ _ _ (added_bytes _ w (inv_sub_bytes_bytes (inv_shift_rows (inv_rounds w s n))) bytes (9 - n)) _ _)

  module _ (s : List ℕ) (h : length s ≡ 16) (b : Bytes s) where
    -- the state after n rounds of the inverse cipher, by that of the cipher after 9 - n
    back : (n m : ℕ) → m + n ≡ 9 → inv_rounds w (cipher w s) n ≡ shift_rows (sub_bytes (rounds w s m))
    unfolding inv_rounds cipher rounds
    back zero m e =
        let k : m ≡ 9 = omega arith in
        rw k (key_twice (shift_rows (sub_bytes (rounds w s 9))) 10 (shifted_long _) (lit≤ tt))
    back (suc n) m e =
        let k : 9 - n ≡ suc m = omega arith in
        ap (λ (t : List ℕ). inv_mix_columns (add_round_key (inv_sub_bytes (inv_shift_rows t)) (round_key w (9 - n)))) (back n (suc m) (omega arith))
        ∙ ap (λ (t : List ℕ). inv_mix_columns (add_round_key t (round_key w (9 - n))))
        (inv_sub_sub (rounds w s (suc m)) (rounds_long s h (suc m) (omega arith)) (rounds_bytes s b (suc m)))
        ∙ rw k (ap inv_mix_columns (key_twice (mix_columns (shift_rows (sub_bytes (rounds w s m)))) (suc m) (mix_columns_long _) (omega arith)))
        ∙ inv_mix_mix (shift_rows (sub_bytes (rounds w s m))) (shifted_long _)

    pub inv_cipher_cipher : inv_cipher w (cipher w s) ≡ s
    unfolding inv_cipher rounds
    inv_cipher_cipher =
        ap (λ (t : List ℕ). add_round_key (inv_sub_bytes (inv_shift_rows t)) (round_key w 0)) (back 9 0 refl)
        ∙ ap (λ (t : List ℕ). add_round_key t (round_key w 0)) (inv_sub_sub (rounds w s 0) (rounds_long s h 0 (lit≤ tt)) (rounds_bytes s b 0))
        ∙ key_twice s 0 h (lit≤ tt)

    -- the other way round
    forth : (n m : ℕ) → m + n ≡ 9 → rounds w (inv_cipher w s) n ≡ inv_sub_bytes (inv_shift_rows (inv_rounds w s m))
    unfolding inv_rounds inv_cipher rounds
    forth zero m e =
        let k : m ≡ 9 = omega arith in
        rw k (key_twice (inv_sub_bytes (inv_shift_rows (inv_rounds w s 9))) 0 (unshifted_long _) (lit≤ tt))
    forth (suc n) m e =
        let k : 9 - m ≡ suc n = omega arith in
        ap (λ (t : List ℕ). add_round_key (mix_columns (shift_rows (sub_bytes t))) (round_key w (suc n))) (forth n (suc m) (omega arith))
        ∙ ap (λ (t : List ℕ). add_round_key (mix_columns t) (round_key w (suc n)))
        (sub_inv_sub (inv_rounds w s (suc m)) (inv_rounds_long s h (suc m)) (inv_rounds_bytes s b (suc m)))
        ∙ ap (λ (t : List ℕ). add_round_key t (round_key w (suc n)))
        (mix_inv_mix (add_round_key (inv_sub_bytes (inv_shift_rows (inv_rounds w s m))) (round_key w (9 - m))) (added_long _ w (unshifted_long _) long (9 - m) (omega arith)))
        ∙ rw k (key_twice (inv_sub_bytes (inv_shift_rows (inv_rounds w s m))) (suc n) (unshifted_long _) (omega arith))

    pub cipher_inv_cipher : cipher w (inv_cipher w s) ≡ s
    unfolding cipher inv_rounds
    cipher_inv_cipher =
        ap (λ (t : List ℕ). add_round_key (shift_rows (sub_bytes t)) (round_key w 10)) (forth 9 0 refl)
        ∙ ap (λ (t : List ℕ). add_round_key t (round_key w 10)) (sub_inv_sub (inv_rounds w s 0) (inv_rounds_long s h 0) (inv_rounds_bytes s b 0))
        ∙ key_twice s 10 h (lit≤ tt)

-- ---- AES-128

module _ (key block : List ℕ) (lk : length key ≡ 16) (bk : Bytes key) (lb : length block ≡ 16) (bb : Bytes block) where
  pub aes_decrypt_encrypt : aes_decrypt key (aes_encrypt key block) ≡ block
  unfolding aes_decrypt aes_encrypt
  aes_decrypt_encrypt = inv_cipher_cipher (key_expansion key) (key_expansion_long key lk) (key_expansion_bytes key bk) block lb bb

  pub aes_encrypt_decrypt : aes_encrypt key (aes_decrypt key block) ≡ block
  unfolding aes_decrypt aes_encrypt
  aes_encrypt_decrypt = cipher_inv_cipher (key_expansion key) (key_expansion_long key lk) (key_expansion_bytes key bk) block lb bb
