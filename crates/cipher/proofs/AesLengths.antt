-- How long the key schedule and the results of the cipher and its inverse are, and that they are made of bytes. Assumes nothing.
use mathlib.Core.Path.{◌≡◌, refl, ◌∙◌}
use mathlib.Core.List.{List, ◌++◌, map}
use Prim.Native.Nat.{ℕ, zero, suc, ◌+◌, ◌-◌, ◌*◌, ◌/◌, ◌%◌, ◌≤◌, ◌<◌}
use native.Mathlib.Omega.{arith}
use lib.Dec.{lit<, lit≤}
use lib.ListN.{length, take, drop, length-append, length-drop, length-map}
use lib.Seq.{length-take-le}
use Rattle.cipher.specs.Bytes.{Bytes, tab, ◌⊕◌}
use Rattle.cipher.specs.Fips197.{s_box, sub_bytes, cell, shift_rows, mixed, add_round_key, word, rot_word, rcon, key_temp, next_word, key_words, key_expansion, round_key, cipher, inv_s_box, inv_shift_rows, inv_sub_bytes, inv_cipher, aes_encrypt, aes_decrypt}
use Rattle.cipher.proofs.Xor.{xor_byte, length_xor, Bytes-⊕}
use Rattle.cipher.proofs.ByteLists.{Bytes-tab, Bytes-map, Bytes-take, Bytes-drop, Bytes-append}
use Rattle.cipher.proofs.Tabulation.{length_tab}
use Rattle.cipher.proofs.AesBytes.{times_byte, power_byte, s_box_byte, inv_s_box_byte}

-- ---- the key schedule

word_long : (w : List ℕ) (i : ℕ) → 4 * i + 4 ≤ length w → length (word w i) ≡ 4
unfolding word
word_long w i h = length-take-le 4 (drop (4 * i) w) (omega (arith, length-drop (4 * i) w))

temp_long : (r i : ℕ) (t : List ℕ) → length t ≡ 4 → length (key_temp r i t) ≡ 4
unfolding key_temp rot_word rcon
temp_long zero i t h =
    length_xor 4 (map s_box (drop 1 t ++ take 1 t)) _
    (length-map (drop 1 t ++ take 1 t) s_box ∙ length-append (drop 1 t) (take 1 t) ∙ omega (arith, length-drop 1 t, length-take-le 1 t (omega arith))) refl
temp_long (suc r) i t h = h

pub key_words_long : (key : List ℕ) → length key ≡ 16 → (n : ℕ) → length (key_words key n) ≡ 16 + 4 * n
unfolding key_words next_word
key_words_long key h zero = h
key_words_long key h (suc n) =
    let w : List ℕ = key_words key n in
    let l : length w ≡ 16 + 4 * n = key_words_long key h n in
    let t : List ℕ = key_temp ((n + 4) % 4) (n + 4) (word w (n + 3)) in
    let m : length (word w n ⊕ t) ≡ 4 = length_xor 4 (word w n) t (word_long w n (omega arith)) (temp_long ((n + 4) % 4) (n + 4) (word w (n + 3)) (word_long w (n + 3) (omega arith))) in
    length-append w (word w n ⊕ t) ∙ omega arith

pub key_expansion_long : (key : List ℕ) → length key ≡ 16 → length (key_expansion key) ≡ 176
unfolding key_expansion
key_expansion_long key h = key_words_long key h 40

word_bytes_lem : (w : List ℕ) (i : ℕ) → Bytes w → Bytes (word w i)
unfolding word
word_bytes_lem w i h = Bytes-take 4 (drop (4 * i) w) (Bytes-drop (4 * i) w h)

rcon_bytes : (i : ℕ) → Bytes (rcon i)
unfolding rcon
rcon_bytes i zero = power_byte (i - 1)
rcon_bytes i (suc zero) = lit< tt
rcon_bytes i (suc (suc zero)) = lit< tt
rcon_bytes i (suc (suc (suc zero))) = lit< tt
rcon_bytes i (suc (suc (suc (suc j)))) = lit< tt

temp_bytes : (r i : ℕ) (t : List ℕ) → Bytes t → Bytes (key_temp r i t)
unfolding key_temp
temp_bytes zero i t h = Bytes-⊕ (map s_box (rot_word t)) (rcon (i / 4)) (Bytes-map s_box s_box_byte (rot_word t)) (rcon_bytes (i / 4))
temp_bytes (suc r) i t h = h

key_words_bytes : (key : List ℕ) → Bytes key → (n : ℕ) → Bytes (key_words key n)
unfolding key_words next_word
key_words_bytes key h zero = h
key_words_bytes key h (suc n) =
    let w : List ℕ = key_words key n in
    let b : Bytes w = key_words_bytes key h n in
    let t : List ℕ = key_temp ((n + 4) % 4) (n + 4) (word w (n + 3)) in
    Bytes-append w (word w n ⊕ t) b (Bytes-⊕ (word w n) t (word_bytes_lem w n b) (temp_bytes ((n + 4) % 4) (n + 4) (word w (n + 3)) (word_bytes_lem w (n + 3) b)))

pub key_expansion_bytes : (key : List ℕ) → Bytes key → Bytes (key_expansion key)
unfolding key_expansion
key_expansion_bytes key h = key_words_bytes key h 40

pub round_key_long : (w : List ℕ) → length w ≡ 176 → (n : ℕ) → n ≤ 10 → length (round_key w n) ≡ 16
unfolding round_key
round_key_long w l n h = length-take-le 16 (drop (16 * n) w) (omega (arith, length-drop (16 * n) w))

pub round_key_bytes : (w : List ℕ) → Bytes w → (n : ℕ) → Bytes (round_key w n)
unfolding round_key
round_key_bytes w h n = Bytes-take 16 (drop (16 * n) w) (Bytes-drop (16 * n) w h)

-- ---- a state with a round key added

pub added_long : (s w : List ℕ) → length s ≡ 16 → length w ≡ 176 → (n : ℕ) → n ≤ 10 → length (add_round_key s (round_key w n)) ≡ 16
unfolding add_round_key
added_long s w h l n k = length_xor 16 s (round_key w n) h (round_key_long w l n k)

pub added_bytes : (s w : List ℕ) → Bytes s → Bytes w → (n : ℕ) → Bytes (add_round_key s (round_key w n))
unfolding add_round_key
added_bytes s w h k n = Bytes-⊕ s (round_key w n) h (round_key_bytes w k n)

-- ---- the four transformations and their inverses

pub shifted_long : (s : List ℕ) → length (shift_rows s) ≡ 16
unfolding shift_rows
shifted_long s = length_tab 16 _

pub unshifted_long : (s : List ℕ) → length (inv_sub_bytes (inv_shift_rows s)) ≡ 16
unfolding inv_sub_bytes inv_shift_rows
unshifted_long s = length-map (tab 16 _) inv_s_box ∙ length_tab 16 _

pub sub_bytes_bytes : (s : List ℕ) → Bytes (shift_rows (sub_bytes s))
unfolding shift_rows sub_bytes cell
sub_bytes_bytes s = Bytes-tab 16 _ (λ i. Bytes-map s_box s_box_byte s _)

pub inv_shift_rows_bytes : (s : List ℕ) → Bytes s → Bytes (inv_shift_rows s)
unfolding inv_shift_rows cell
inv_shift_rows_bytes s h = Bytes-tab 16 _ (λ i. h _)

pub inv_sub_bytes_bytes : (s : List ℕ) → Bytes (inv_sub_bytes s)
unfolding inv_sub_bytes
inv_sub_bytes_bytes s = Bytes-map inv_s_box inv_s_box_byte s

pub mixed_byte : (a0 a1 a2 a3 : ℕ) (s : List ℕ) → Bytes s → (r c : ℕ) → mixed a0 a1 a2 a3 s r c < 256
unfolding mixed cell
mixed_byte a0 a1 a2 a3 s h r c =
    xor_byte _ _ (xor_byte _ _ (xor_byte _ _ (times_byte a0 _ (h _)) (times_byte a1 _ (h _))) (times_byte a2 _ (h _))) (times_byte a3 _ (h _))

-- ---- the results

module _ (key block : List ℕ) where
  pub aes_encrypt_long : length key ≡ 16 → length (aes_encrypt key block) ≡ 16
  unfolding aes_encrypt cipher
  aes_encrypt_long h = added_long _ (key_expansion key) (shifted_long _) (key_expansion_long key h) 10 (lit≤ tt)

  pub aes_decrypt_long : length key ≡ 16 → length (aes_decrypt key block) ≡ 16
  unfolding aes_decrypt inv_cipher
  aes_decrypt_long h = added_long _ (key_expansion key) (unshifted_long _) (key_expansion_long key h) 0 (lit≤ tt)

  pub aes_encrypt_bytes : Bytes key → Bytes (aes_encrypt key block)
  unfolding aes_encrypt cipher
  aes_encrypt_bytes h = added_bytes _ (key_expansion key) (sub_bytes_bytes _) (key_expansion_bytes key h) 10

  pub aes_decrypt_bytes : Bytes key → Bytes (aes_decrypt key block)
  unfolding aes_decrypt inv_cipher
  aes_decrypt_bytes h = added_bytes _ (key_expansion key) (inv_sub_bytes_bytes _) (key_expansion_bytes key h) 0
