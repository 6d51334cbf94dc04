-- The key schedule, a round key at a time, from what the calls in a turn of the code ensure. Assumes nothing.
use mathlib.Core.Path.{◌≡◌, refl, sym, ap, ap₂, ◌∙◌}
use mathlib.Core.List.{List, [], ◌∷◌, ◌++◌, map, append_assoc, append-nil}
use Prim.Native.Nat.{ℕ, zero, suc, ◌+◌, ◌-◌, ◌*◌, ◌/◌, ◌%◌, ◌≤◌, ◌<◌}
use native.Mathlib.Nat.{zero-add, suc-add}
use native.Mathlib.Numerals.{add-one}
use native.Mathlib.Omega.{arith}
use lib.Dec.{lit<}
use lib.ListN.{length, take, drop, get_or, set, take-append-drop}
use lib.Seq.{drop-append-add, drop-cons, drop_at, take_all, take-append-le, length-take-le}
use lib.Bits.{bit_xor}
use Rattle.std.specs.List.{flat_map}
use Rattle.std.proofs.lemmas.List.{drop-take, take_more_set}
use Rattle.std.proofs.lemmas.List.Concat.{flat_map-append}
use Rattle.cipher.specs.declared.aes.Columns.{Columns}
use Rattle.cipher.specs.declared.aes.RoundKey.{RoundKey}
use Rattle.cipher.specs.Bytes.{◌⊕◌, word_bytes, words_bytes}
use Rattle.cipher.specs.Fips197.{xtime, s_box, word, rot_word, power, rcon, key_temp, next_word, key_words, key_expansion, round_key}
use Rattle.cipher.specs.inner.AesTables.{bytes_of, RoundKeyOf}
use Rattle.cipher.proofs.Xor.{⊕-assoc}
use Rattle.cipher.proofs.Words.{◌◂◌, word_xor, words_append, words_drop}
use Rattle.cipher.proofs.AesLengths.{key_words_long}

-- ---- words

-- the words that come later stand behind
words_front : (key : List ℕ) → length key ≡ 16 → (m j : ℕ) → take (16 + 4 * m) (key_words key (j + m)) ≡ key_words key m
unfolding key_words next_word
words_front key h m zero =
    let l : length (key_words key m) ≡ 16 + 4 * m = key_words_long key h m in
    rw (zero-add m) (take_all (16 + 4 * m) (key_words key m) (omega arith))
words_front key h m (suc j) =
    let l : length (key_words key (j + m)) ≡ 16 + 4 * (j + m) = key_words_long key h (j + m) in
    rw (suc-add j m) (take-append-le (16 + 4 * m) (key_words key (j + m)) _ (omega arith) ∙ words_front key h m j)

-- word m of a list of bytes that ends in words, the first of which has the number j
word_at : (q us : List ℕ) (j i m : ℕ) → length q ≡ 4 * j → m ≡ j + i → i < length us → word (q ++ words_bytes us) m ≡ word_bytes (get_or us i 0)
unfolding word words_bytes word_bytes
word_at q us j i m l e h =
    let k : 4 * m ≡ length q + 4 * i = omega arith in
    rw k (ap (take 4) (drop-append-add q (words_bytes us) (4 * i) ∙ words_drop i us ∙ ap words_bytes (drop-cons us i 0 h)))

-- one word more
next_at : (q us : List ℕ) (x j i m r : ℕ) → length q ≡ 4 * j → m ≡ j + i → i + 3 < length us → (m + 4) % 4 ≡ r
    → word_bytes x ≡ word_bytes (get_or us i 0) ⊕ key_temp r (m + 4) (word_bytes (get_or us (i + 3) 0))
    → next_word m (q ++ words_bytes us) ≡ q ++ words_bytes (us ++ (x ∷ []))
unfolding next_word words_bytes word_bytes
next_at q us x j i m r l e h z p =
    rw (word_at q us j i m l e (omega arith), word_at q us j (i + 3) (m + 3) l (omega arith) h, z, ← p)
    (append_assoc q (words_bytes us) (word_bytes x) ∙ ap (λ (s : List ℕ). q ++ s) (sym (words_append us (x ∷ []))))

-- ---- a round key from the one before it

-- what the code makes of round key k: e f g h, by the S-box of the rotated last word, u
module _ (k : RoundKey) (u : ℕ) (l : k.power < 256) (s : word_bytes u ≡ map s_box (rot_word (word_bytes k.words.d))) where
  -- the four words that follow, where the first byte of the round constant is the power
  pub record Next (e f g h : ℕ) : Type 0 where
    pub first : word_bytes e ≡ word_bytes k.words.a ⊕ (map s_box (rot_word (word_bytes k.words.d)) ⊕ (k.power ∷ 0 ∷ 0 ∷ 0 ∷ []))
    pub second : word_bytes f ≡ word_bytes k.words.b ⊕ word_bytes e
    pub third : word_bytes g ≡ word_bytes k.words.c ⊕ word_bytes f
    pub fourth : word_bytes h ≡ word_bytes k.words.d ⊕ word_bytes g

  pub next_made : (p e f g h : ℕ) → p ≡ k.power → e ≡ bit_xor (bit_xor k.words.a u) (p * 16777216 % 4294967296) → f ≡ bit_xor k.words.b e → g ≡ bit_xor k.words.c f → h ≡ bit_xor k.words.d g → Next e f g h
  unfolding word_bytes
  next_made p e f g h ep ee ef eg eh =
      let rcon : word_bytes (p * 16777216 % 4294967296) ≡ k.power ∷ 0 ∷ 0 ∷ 0 ∷ [] = omega arith ◂ omega arith ◂ omega arith ◂ omega arith ◂ refl in
      record {
        first = ap word_bytes ee
            ∙ word_xor (bit_xor k.words.a u) (p * 16777216 % 4294967296)
            ∙ ap₂ ◌⊕◌ (word_xor k.words.a u ∙ ap (◌⊕◌ (word_bytes k.words.a)) s) rcon
            ∙ ⊕-assoc (word_bytes k.words.a) (map s_box (rot_word (word_bytes k.words.d))) (k.power ∷ 0 ∷ 0 ∷ 0 ∷ []);
        second = ap word_bytes ef ∙ word_xor k.words.b e;
        third = ap word_bytes eg ∙ word_xor k.words.c f;
        fourth = ap word_bytes eh ∙ word_xor k.words.d g;
      }

-- round key n is the end of the first 4 n + 4 words: those that come later stand behind
module _ (key : List ℕ) (long : length key ≡ 16) where
  all_long : (n : ℕ) → length (key_words key (4 * n)) ≡ 16 * n + 16
  all_long n = key_words_long key long (4 * n) ∙ omega arith

  pub round_key_end : (n : ℕ) → n ≤ 10 → round_key (key_expansion key) n ≡ drop (16 * n) (key_words key (4 * n))
  unfolding round_key key_expansion
  round_key_end n h =
      let o : 40 - 4 * n + 4 * n ≡ 40 = omega arith in
      let m : 16 + 4 * (4 * n) ≡ 16 * n + 16 = omega arith in
      let front : take (16 * n + 16) (key_words key 40) ≡ key_words key (4 * n) = rw (o, m) at (words_front key long (4 * n) (40 - 4 * n)) in
      sym (drop-take (16 * n) 16 (key_words key 40)) ∙ ap (drop (16 * n)) front

pub first_key : (key : List ℕ) (k : RoundKey) → length key ≡ 16 → bytes_of k.words ≡ key → k.power ≡ 1 → RoundKeyOf key 0 k
unfolding key_words power
first_key key k l e p = record { key_size = l; words = e ∙ sym (round_key_end key l 0 (omega arith)); next_power = p }

module _ {key : List ℕ} {n : ℕ} {k : RoundKey} (r : RoundKeyOf key n k) (h : n < 10) (k' : RoundKey) where
  -- four words more
  key_words_lem : (u : ℕ) (l : k.power < 256) (s : word_bytes u ≡ map s_box (rot_word (word_bytes k.words.d))) → Next k u l s k'.words.a k'.words.b k'.words.c k'.words.d
      → key_words key (4 * n + 4) ≡ key_words key (4 * n) ++ bytes_of k'.words
  unfolding key_words key_temp rcon
  key_words_lem u l s x =
      let m : ℕ = 4 * n in
      let w : List ℕ = key_words key m in
      let q : List ℕ = take (16 * n) w in
      let a : ℕ = k.words.a in
      let d : ℕ = k.words.d in
      let e : ℕ = k'.words.a in
      let f : ℕ = k'.words.b in
      let g : ℕ = k'.words.c in
      let i : ℕ = k'.words.d in
      let us : List ℕ = a ∷ k.words.b ∷ k.words.c ∷ d ∷ [] in
      let vs : List ℕ = e ∷ f ∷ g ∷ i ∷ [] in
      let long : length w ≡ 16 * n + 16 = all_long key r.key_size n in
      let len : length q ≡ 4 * m = length-take-le (16 * n) w (omega arith) ∙ omega arith in
      let parts : w ≡ q ++ words_bytes us = sym (take-append-drop (16 * n) w) ∙ ap (λ (t : List ℕ). q ++ t) (sym (r.words ∙ round_key_end key r.key_size n (omega arith))) in
      let count : m + 4 ≡ suc (suc (suc (suc m))) = omega arith in
      let j : (m + 4) / 4 - 1 ≡ n = omega arith in
      let first : word_bytes e ≡ word_bytes a ⊕ (map s_box (rot_word (word_bytes d)) ⊕ (power ((m + 4) / 4 - 1) ∷ 0 ∷ 0 ∷ 0 ∷ [])) =
      x.first ∙ ap (λ (y : ℕ). word_bytes a ⊕ (map s_box (rot_word (word_bytes d)) ⊕ (y ∷ 0 ∷ 0 ∷ 0 ∷ []))) (r.next_power ∙ ap power (sym j)) in
      rw count
      (ap (λ (t : List ℕ). next_word (suc (suc (suc m))) (next_word (suc (suc m)) (next_word (suc m) t)))
      (ap (next_word m) parts ∙ next_at q us e m 0 m 0 len (omega arith) (lit< tt) (omega arith) first)
      ∙ ap (λ (t : List ℕ). next_word (suc (suc (suc m))) (next_word (suc (suc m)) t))
      (next_at q (us ++ (e ∷ [])) f m 1 (suc m) 1 len (omega arith) (lit< tt) (omega arith) x.second)
      ∙ ap (next_word (suc (suc (suc m)))) (next_at q (us ++ (e ∷ f ∷ [])) g m 2 (suc (suc m)) 2 len (omega arith) (lit< tt) (omega arith) x.third)
      ∙ next_at q (us ++ (e ∷ f ∷ g ∷ [])) i m 3 (suc (suc (suc m))) 3 len (omega arith) (lit< tt) (omega arith) x.fourth)
      ∙ ap (λ (t : List ℕ). q ++ t) (words_append us vs)
      ∙ sym (append_assoc q (words_bytes us) (words_bytes vs))
      ∙ ap (λ (t : List ℕ). t ++ words_bytes vs) (sym parts)

  pub next_key : (u : ℕ) (l : k.power < 256) (s : word_bytes u ≡ map s_box (rot_word (word_bytes k.words.d))) → Next k u l s k'.words.a k'.words.b k'.words.c k'.words.d
      → k'.power ≡ xtime k.power → RoundKeyOf key (n + 1) k'
  unfolding power
  next_key u l s x y =
      let i : 4 * (n + 1) ≡ 4 * n + 4 = omega arith in
      let e : length (key_words key (4 * n)) ≡ 16 * (n + 1) = all_long key r.key_size n ∙ omega arith in
      record {
        key_size = r.key_size;
        words = sym (round_key_end key r.key_size (n + 1) (omega arith) ∙ ap (drop (16 * (n + 1))) (ap (key_words key) i ∙ key_words_lem u l s x)
            ∙ drop_at (key_words key (4 * n)) (bytes_of k'.words) (16 * (n + 1)) e);
        next_power = rw (add-one n) (y ∙ ap xtime r.next_power);
      }

-- ---- the loop of the code that fills a schedule

-- the words up to a round key end with it
key_grows : (key : List ℕ) (n : ℕ) (k : RoundKey) → n < 10 → RoundKeyOf key (n + 1) k → key_words key (4 * (n + 1)) ≡ key_words key (4 * n) ++ bytes_of k.words
key_grows key n k h r =
    let w : List ℕ = key_words key (4 * (n + 1)) in
    let o : 4 + 4 * n ≡ 4 * (n + 1) = omega arith in
    let m : 16 + 4 * (4 * n) ≡ 16 * (n + 1) = omega arith in
    sym (take-append-drop (16 * (n + 1)) w)
    ∙ ap₂ ◌++◌ (rw (o, m) at (words_front key r.key_size (4 * n) 4)) (sym (r.words ∙ round_key_end key r.key_size (n + 1) (omega arith)))

-- the first n of the round keys after the key itself are in ks
abbrev pub KeysMade : List ℕ → ℕ → List Columns → Type 0
KeysMade key n ks = key ++ flat_map bytes_of (take n ks) ≡ key_words key (4 * n)

pub keys_start : (key : List ℕ) (ks : List Columns) → KeysMade key 0 ks
unfolding key_words
keys_start key ks = append-nil key

pub keys_step : {key : List ℕ} {n : ℕ} (ks : List Columns) (k : RoundKey) → KeysMade key n ks → n < length ks → n < 10 → RoundKeyOf key (n + 1) k
    → KeysMade key (n + 1) (set ks n k.words)
keys_step {key} {n} ks k m l h r =
    ap (λ (t : List Columns). key ++ flat_map bytes_of t) (take_more_set ks n k.words l)
    ∙ ap (λ (t : List ℕ). key ++ t) (flat_map-append bytes_of (take n ks) (k.words ∷ []) ∙ ap (λ (t : List ℕ). flat_map bytes_of (take n ks) ++ t) (append-nil (bytes_of k.words)))
    ∙ sym (append_assoc key (flat_map bytes_of (take n ks)) (bytes_of k.words))
    ∙ ap (λ (t : List ℕ). t ++ bytes_of k.words) m
    ∙ sym (key_grows key n k h r)

pub keys_done : {key : List ℕ} (ks : List Columns) (k : RoundKey) (n : ℕ) → KeysMade key n ks → length ks ≡ 10 → n ≡ 10 → RoundKeyOf key 0 k
    → flat_map bytes_of (k.words ∷ ks) ≡ key_expansion key
unfolding key_expansion key_words
keys_done {key} ks k n m l e r =
    let first : bytes_of k.words ≡ key = r.words ∙ round_key_end key r.key_size 0 (omega arith) in
    rw first (ap (λ (t : List Columns). key ++ flat_map bytes_of t) (sym (take_all 10 ks (omega arith))) ∙ rw e at m)
