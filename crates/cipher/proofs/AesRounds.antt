-- The rounds of the cipher on four words, from what the calls in a turn of the code ensure. Assumes nothing.
use mathlib.Core.Path.{◌≡◌, sym, ap, ap₂, ◌∙◌}
use mathlib.Core.List.{List, [], ◌∷◌, ◌++◌, reverse}
use Prim.Native.Nat.{ℕ, zero, suc, ◌+◌, ◌-◌, ◌*◌, ◌<◌}
use native.Mathlib.Numerals.{add-one}
use native.Mathlib.Omega.{arith}
use lib.ListN.{length, take, drop, get_or, length-drop}
use lib.Seq.{take_at, drop-append-add, length-take-le, get_or-take, get_or-drop}
use Rattle.std.proofs.lemmas.List.{get_or-reverse}
use Rattle.std.specs.List.{flat_map}
use Rattle.cipher.specs.declared.aes.Columns.{Columns}
use Rattle.cipher.specs.Bytes.{word_bytes, words_bytes}
use Rattle.cipher.specs.Fips197.{sub_bytes, shift_rows, mix_columns, add_round_key, round_key, rounds, cipher, inv_sub_bytes, inv_shift_rows, inv_mix_columns, inv_rounds, inv_cipher}
use Rattle.cipher.specs.inner.AesTables.{bytes_of}
use Rattle.cipher.proofs.Words.{words_of, words_length}

-- a state made of four words, each by F from a column of l
pub each_made : (F : List ℕ → List ℕ) (e f g h : ℕ) {r l : List (List ℕ)} → r ≡ l → word_bytes e ≡ F (get_or r 0 []) → word_bytes f ≡ F (get_or r 1 [])
    → word_bytes g ≡ F (get_or r 2 []) → word_bytes h ≡ F (get_or r 3 [])
    → words_bytes (e ∷ f ∷ g ∷ h ∷ []) ≡ F (get_or l 0 []) ++ (F (get_or l 1 []) ++ (F (get_or l 2 []) ++ (F (get_or l 3 []) ++ [])))
each_made F e f g h x hp hq hr hs = rw (← x) (words_of e f g h hp hq hr hs)

-- a round key of a schedule is 16 of its bytes
pub round_key_lem : (ks : List Columns) (n : ℕ) (d : Columns) → n < length ks → round_key (flat_map bytes_of ks) n ≡ bytes_of (get_or ks n d)
unfolding round_key
round_key_lem [] n d h = absurd (omega arith)
round_key_lem (k ∷ ks) zero d h = take_at (bytes_of k) (flat_map bytes_of ks) 16 (words_length (k.a ∷ k.b ∷ k.c ∷ k.d ∷ []))
round_key_lem (k ∷ ks) (suc n) d h =
    let l : length (bytes_of k) ≡ 16 = words_length (k.a ∷ k.b ∷ k.c ∷ k.d ∷ []) in
    let e : 16 * suc n ≡ length (bytes_of k) + 16 * n = omega arith in
    rw e (ap (take 16) (drop-append-add (bytes_of k) (flat_map bytes_of ks) (16 * n)) ∙ round_key_lem ks n d (omega arith))

-- the round keys of a schedule as the code reads them: by their number, and from 1 to 9 by a slice
module _ (ks : List Columns) {w : List ℕ} (e : flat_map bytes_of ks ≡ w) (l : length ks ≡ 11) where
  pub key_at : (n : ℕ) (d : Columns) → n < 11 → bytes_of (get_or ks n d) ≡ round_key w n
  key_at n d h = sym (round_key_lem ks n d (omega arith)) ∙ ap (λ (t : List ℕ). round_key t n) e

  pub key_between : (i n : ℕ) (d : Columns) → n ≡ i + 1 → i < 9 → bytes_of (get_or (take 9 (drop 1 ks)) i d) ≡ round_key w n
  key_between i n d p h = ap bytes_of (get_or-take 9 (drop 1 ks) i d h ∙ get_or-drop 1 ks i d ∙ ap (λ (j : ℕ). get_or ks j d) (omega arith)) ∙ key_at n d (omega arith)

  pub length_between : length (take 9 (drop 1 ks)) ≡ 9
  length_between = length-take-le 9 (drop 1 ks) (omega (arith, length-drop 1 ks))

  -- the other way round
  pub key_back : (i : ℕ) (d : Columns) → i < 9 → bytes_of (get_or (reverse (take 9 (drop 1 ks))) i d) ≡ round_key w (9 - i)
  key_back i d h =
      let m : length (take 9 (drop 1 ks)) ≡ 9 = length_between in
      ap bytes_of (get_or-reverse (take 9 (drop 1 ks)) i d (omega arith) ∙ ap (λ (j : ℕ). get_or (take 9 (drop 1 ks)) j d) (omega arith))
      ∙ key_between (8 - i) (9 - i) d (omega arith) (omega arith)

module _ (w k r : List ℕ) where
  pub rounds_none : (s block : List ℕ) → s ≡ block → k ≡ round_key w 0 → r ≡ add_round_key s k → r ≡ rounds w block 0
  unfolding rounds
  rounds_none s block q p e = e ∙ ap₂ add_round_key q p

  pub rounds_more : (s t block : List ℕ) (n : ℕ) → s ≡ rounds w block n → k ≡ round_key w (n + 1) → t ≡ mix_columns (shift_rows (sub_bytes s)) → r ≡ add_round_key t k
      → r ≡ rounds w block (n + 1)
  unfolding rounds
  rounds_more s t block n q p f e = e ∙ rw (add-one n) (ap₂ add_round_key (f ∙ ap (λ (l : List ℕ). mix_columns (shift_rows (sub_bytes l))) q) (rw (add-one n) at p))

  pub rounds_done : (s t block : List ℕ) → s ≡ rounds w block 9 → t ≡ shift_rows (sub_bytes s) → k ≡ round_key w 10 → r ≡ add_round_key t k → r ≡ cipher w block
  unfolding cipher
  rounds_done s t block q h p e = e ∙ ap₂ add_round_key (h ∙ ap (λ (l : List ℕ). shift_rows (sub_bytes l)) q) p

  -- ---- the inverse cipher

  pub inv_none : (s block : List ℕ) → s ≡ block → k ≡ round_key w 10 → r ≡ add_round_key s k → r ≡ inv_rounds w block 0
  unfolding inv_rounds
  inv_none s block q p e = e ∙ ap₂ add_round_key q p

  pub inv_more : (s t u block : List ℕ) (n : ℕ) → s ≡ inv_rounds w block n → k ≡ round_key w (9 - n) → t ≡ inv_sub_bytes (inv_shift_rows s) → u ≡ add_round_key t k
      → r ≡ inv_mix_columns u → r ≡ inv_rounds w block (n + 1)
  unfolding inv_rounds
  inv_more s t u block n q p f e g =
      g ∙ rw (add-one n) (ap inv_mix_columns (e ∙ ap₂ add_round_key (f ∙ ap (λ (l : List ℕ). inv_sub_bytes (inv_shift_rows l)) q) p))

  pub inv_done : (s t block : List ℕ) → s ≡ inv_rounds w block 9 → t ≡ inv_sub_bytes (inv_shift_rows s) → k ≡ round_key w 0 → r ≡ add_round_key t k → r ≡ inv_cipher w block
  unfolding inv_cipher
  inv_done s t block q h p e = e ∙ ap₂ add_round_key (h ∙ ap (λ (l : List ℕ). inv_sub_bytes (inv_shift_rows l)) q) p
