-- The key schedule on words: PC-1, the shifts, PC-2 by its table, the loop over the rounds, and the keys with the last one first. Assumes nothing.
use mathlib.Core.Path.{◌≡◌, refl, sym, ap, ap₂, ◌∙◌}
use mathlib.Core.Bool.{Bool, true, false}
use mathlib.Core.List.{List, [], ◌∷◌, ◌++◌, append_assoc, append-nil, map, reverse}
use Prim.Native.Nat.{ℕ, zero, suc, ◌+◌, ◌-◌, ◌*◌, ◌/◌, ◌%◌, ◌^◌, ◌≤◌, ◌<◌}
use native.Mathlib.Nat.{le_refl}
use native.Mathlib.Omega.{arith}
use borrow.Author.Tests.{lt-ltb, le-ltb, ne_eqb}
use mathlib.Core.Logic.{◌⊎◌, inl, inr}
use lib.Arith.{digits_lt}
use lib.Dec.{ltb, eqb, eqb→eq}
use lib.Pow.{shr_lt}
use lib.ListN.{length, take, drop, get_or, set, length-set}
use native.Mathlib.Numerals.{add-one}
use lib.Seq.{take_at, drop_at, take-suc-set, drop-cons, take_all}
use Rattle.std.proofs.lemmas.List.{map-append}
use Rattle.cipher.specs.declared.des.TheConstants.{PC2_ENTRIES}
use Rattle.cipher.specs.Bits.{bits, num, ◌⊞◌, to_bits}
use Rattle.cipher.specs.Bytes.{tab}
use Rattle.cipher.specs.Fips46.{select, left_shift, shifts, keys_from, KS, PC1, PC2}
use Rattle.cipher.specs.inner.DesTables.{among, packed_places, places, pc2_bits, transposed, key_bits}
use Rattle.cipher.specs.inner.DesWith.{keys_back}
use Rattle.cipher.proofs.BitWords.{bit_at, down, bits_down, bits_shr, length_bits, length_select, bits_mod, bits_join, bits_split, bits_num}
use Rattle.cipher.proofs.BitWords.{select_append}
use Rattle.cipher.proofs.DesWords.{mirrored, loaded}
use Rattle.cipher.proofs.DesPc2.{pc2_entry}
use Rattle.cipher.proofs.Table.{at}

-- ---- C0 and D0

pub right_word : (x : ℕ) → bits 28 (x / 2 ^ 8 % 2 ^ 8 * 2 ^ 20 + (x / 2 ^ 16 % 2 ^ 8 * 2 ^ 12 + (x / 2 ^ 24 % 2 ^ 8 * 2 ^ 4 + x / 2 ^ 32 % 2 ^ 4)))
    ≡ bits 8 (x / 2 ^ 8) ++ (bits 8 (x / 2 ^ 16) ++ (bits 8 (x / 2 ^ 24) ++ bits 4 (x / 2 ^ 32)))
right_word x =
    bits_join 8 20 (x / 2 ^ 8 % 2 ^ 8) _ (omega arith)
    ∙ ap₂ ◌++◌ (bits_mod 8 8 (x / 2 ^ 8) (le_refl 8))
    (bits_join 8 12 (x / 2 ^ 16 % 2 ^ 8) _ (omega arith)
    ∙ ap₂ ◌++◌ (bits_mod 8 8 (x / 2 ^ 16) (le_refl 8))
    (bits_join 8 4 (x / 2 ^ 24 % 2 ^ 8) _ (omega arith)
    ∙ ap₂ ◌++◌ (bits_mod 8 8 (x / 2 ^ 24) (le_refl 8)) (bits_mod 4 4 (x / 2 ^ 32) (le_refl 4))))

pc1_left : (g : ℕ → Bool) → down 28 (λ j. g (36 + j)) ≡ take 28 (select PC1 (select mirrored (select transposed (down 64 g))))
unfolding down select PC1 mirrored transposed tab
pc1_left g = refl

pc1_right : (g : ℕ → Bool) → down 8 (λ j. g (8 + j)) ++ (down 8 (λ j. g (16 + j)) ++ (down 8 (λ j. g (24 + j)) ++ down 4 (λ j. g (32 + j))))
    ≡ drop 28 (select PC1 (select mirrored (select transposed (down 64 g))))
unfolding down select PC1 mirrored transposed tab
pc1_right g = refl

module _ (key : List ℕ) (x y : ℕ) (h : length key ≡ 8) (p : bits 64 x ≡ to_bits (reverse key)) (q : bits 64 y ≡ select transposed (bits 64 x)) where
  c0_bits : (c : ℕ) → c ≡ y / 2 ^ 36 → bits 28 c ≡ take 28 (select PC1 (to_bits key))
  c0_bits c e =
      ap (bits 28) e
      ∙ bits_shr 28 36 y
      ∙ pc1_left (bit_at y)
      ∙ ap (λ (l : List Bool). take 28 (select PC1 l)) (sym (loaded key x y h p q))

  d0_bits : (d : ℕ) → bits 28 d ≡ bits 8 (y / 2 ^ 8) ++ (bits 8 (y / 2 ^ 16) ++ (bits 8 (y / 2 ^ 24) ++ bits 4 (y / 2 ^ 32)))
      → bits 28 d ≡ drop 28 (select PC1 (to_bits key))
  d0_bits d e =
      e
      ∙ ap₂ ◌++◌ (bits_shr 8 8 y) (ap₂ ◌++◌ (bits_shr 8 16 y) (ap₂ ◌++◌ (bits_shr 8 24 y) (bits_shr 4 32 y)))
      ∙ pc1_right (bit_at y)
      ∙ ap (λ (l : List Bool). drop 28 (select PC1 l)) (sym (loaded key x y h p q))

  pub keys_all : (c d : ℕ) → c ≡ y / 2 ^ 36 → bits 28 d ≡ bits 8 (y / 2 ^ 8) ++ (bits 8 (y / 2 ^ 16) ++ (bits 8 (y / 2 ^ 24) ++ bits 4 (y / 2 ^ 32)))
      → keys_from shifts (bits 28 c) (bits 28 d) ≡ KS (to_bits key)
  unfolding KS
  keys_all c d e o = ap₂ (keys_from shifts) (c0_bits c e) (d0_bits d o)

-- ---- the shifts

abbrev one_if : Bool → ℕ → ℕ
one_if true n = 1
one_if false n = n

-- one place in rounds 1, 2, 9 and 16, else two
abbrev count : ℕ → ℕ
count i = one_if (ltb i 2) (one_if (eqb i 8) (one_if (eqb i 15) 2))

counted : ℕ → ℕ → Bool
counted i n = eqb n (count i)

shift_count : (i : ℕ) → i < 16 → get_or shifts i 0 ≡ count i
unfolding shifts counted
shift_count i h = eqb→eq (get_or shifts i 0) (count i) (at counted shifts tt i h)

pub once_first : (i : ℕ) → i < 16 → i < 2 → get_or shifts i 0 ≡ 1
once_first i h k = shift_count i h ∙ rw (lt-ltb i 2 k)

pub once_at : (i : ℕ) → (i ≡ 8) ⊎ (i ≡ 15) → get_or shifts i 0 ≡ 1
unfolding shifts
once_at i (inl e) = rw e
once_at i (inr e) = rw e

pub twice : (i : ℕ) → i < 16 → 2 ≤ i → ((i ≡ 8) ⊎ (i ≡ 15) → ⊥) → get_or shifts i 0 ≡ 2
twice i h k n = shift_count i h ∙ rw (le-ltb i 2 k, ne_eqb i 8 (λ e. n (inl e)), ne_eqb i 15 (λ e. n (inr e)))

-- ---- PC-2

length_places : (n : ℕ) → n < 2 → length (packed_places (take 24 (drop (n * 24) PC2))) ≡ 32
unfolding packed_places PC2
length_places zero h = refl
length_places (suc zero) h = refl
length_places (suc (suc n)) h = absurd (omega arith)

length_pc2 : (m x : ℕ) → m < 8 → length (pc2_bits m x) ≡ 32
unfolding pc2_bits places
length_pc2 m x h = length_select (places m) (among (7 * m) (49 - 7 * m) (bits 7 x)) ∙ length_places (m / 4) (omega arith)

pc2_low : (m x : ℕ) → pc2_bits m (x % 128) ≡ pc2_bits m x
unfolding pc2_bits
pc2_low m x = ap (λ (l : List Bool). select (places m) (among (7 * m) (49 - 7 * m) l)) (bits_mod 7 7 x (le_refl 7))

pub pc2_pick : (m x : ℕ) → m < 8 → bits 32 (get_or PC2_ENTRIES (m * 128 + x % 128) 0) ≡ pc2_bits m x
pc2_pick m x k =
    let e : (m * 128 + x % 128) / 128 ≡ m = omega arith in
    let o : (m * 128 + x % 128) % 128 ≡ x % 128 = omega arith in
    ap (bits 32) (pc2_entry (m * 128 + x % 128) (omega arith))
    ∙ ap₂ (λ (i j : ℕ). bits 32 (num (pc2_bits i j))) e o
    ∙ bits_num 32 (pc2_bits m (x % 128)) (length_pc2 m (x % 128) k)
    ∙ pc2_low m x

-- sevens of c side by side
sevens : (ps : List ℕ) (p q c : ℕ) → select ps (among p (21 + q) (bits 7 (c / 2 ^ 21)))
    ⊞ (select ps (among (p + 7) (14 + q) (bits 7 (c / 2 ^ 14)))
    ⊞ (select ps (among (p + 7 + 7) (7 + q) (bits 7 (c / 2 ^ 7))) ⊞ select ps (among (p + 7 + 7 + 7) q (bits 7 c))))
    ≡ select ps (among p q (bits 28 c))
sevens ps p q c =
    sym
    (ap (λ (l : List Bool). select ps (among p q l)) (bits_split 7 21 c)
    ∙ select_append ps p q 7 21 (bits 7 (c / 2 ^ 21)) (bits 21 c) (length_bits 7 _) (length_bits 21 c)
    ∙ ap (λ (l : List Bool). select ps (among p (21 + q) (bits 7 (c / 2 ^ 21))) ⊞ l)
    (ap (λ (l : List Bool). select ps (among (p + 7) q l)) (bits_split 7 14 c)
    ∙ select_append ps (p + 7) q 7 14 (bits 7 (c / 2 ^ 14)) (bits 14 c) (length_bits 7 _) (length_bits 14 c)
    ∙ ap (λ (l : List Bool). select ps (among (p + 7) (14 + q) (bits 7 (c / 2 ^ 14))) ⊞ l)
    (ap (λ (l : List Bool). select ps (among (p + 7 + 7) q l)) (bits_split 7 7 c)
    ∙ select_append ps (p + 7 + 7) q 7 7 (bits 7 (c / 2 ^ 7)) (bits 7 c) (length_bits 7 _) (length_bits 7 c))))

half_c : (c x : ℕ) → bits 32 x ≡ pc2_bits 0 (c / 2 ^ 21) ⊞ (pc2_bits 1 (c / 2 ^ 14) ⊞ (pc2_bits 2 (c / 2 ^ 7) ⊞ pc2_bits 3 c))
    → bits 32 x ≡ select (places 0) (among 0 28 (down 28 (bit_at c)))
unfolding pc2_bits places
half_c c x e = e ∙ sevens (places 0) 0 28 c ∙ ap (λ (l : List Bool). select (places 0) (among 0 28 l)) (bits_down 28 c)

half_d : (d y : ℕ) → bits 32 y ≡ pc2_bits 4 (d / 2 ^ 21) ⊞ (pc2_bits 5 (d / 2 ^ 14) ⊞ (pc2_bits 6 (d / 2 ^ 7) ⊞ pc2_bits 7 d))
    → bits 32 y ≡ select (places 4) (among 28 0 (down 28 (bit_at d)))
unfolding pc2_bits places
half_d d y e = e ∙ sevens (places 4) 28 0 d ∙ ap (λ (l : List Bool). select (places 4) (among 28 0 l)) (bits_down 28 d)

-- the six low bits of each of eight bytes, in the order of a packed round key
six : ℕ → List Bool → List Bool
six i l = take 6 (drop i l)

groups : List Bool → List Bool
groups l = six 2 l ++ (six 34 l ++ (six 10 l ++ (six 42 l ++ (six 18 l ++ (six 50 l ++ (six 26 l ++ six 58 l))))))

groups_down : (g : ℕ → Bool) → down 6 (λ j. g (56 + j)) ++ (down 6 (λ j. g (24 + j)) ++ (down 6 (λ j. g (48 + j)) ++ (down 6 (λ j. g (16 + j))
    ++ (down 6 (λ j. g (40 + j)) ++ (down 6 (λ j. g (8 + j)) ++ (down 6 (λ j. g (32 + j)) ++ down 6 g)))))) ≡ groups (down 64 g)
unfolding down groups six
groups_down g = refl

key_groups : (k : ℕ) → key_bits k ≡ groups (bits 64 k)
unfolding key_bits
key_groups k =
    ap₂ ◌++◌ (bits_shr 6 56 k)
    (ap₂ ◌++◌ (bits_shr 6 24 k)
    (ap₂ ◌++◌ (bits_shr 6 48 k)
    (ap₂ ◌++◌ (bits_shr 6 16 k)
    (ap₂ ◌++◌ (bits_shr 6 40 k) (ap₂ ◌++◌ (bits_shr 6 8 k) (ap₂ ◌++◌ (bits_shr 6 32 k) (bits_down 6 k)))))))
    ∙ groups_down (bit_at k)
    ∙ ap groups (sym (bits_down 64 k))

key_bits_lem : (g h : ℕ → Bool) →
    let a = select (places 0) (among 0 28 (down 28 g)) in
    let b = select (places 4) (among 28 0 (down 28 h)) in
    groups ((drop 16 a ++ drop 16 b) ++ (take 16 a ++ take 16 b)) ≡ select PC2 (down 28 g ++ down 28 h)
unfolding groups six select places packed_places PC2 among down
key_bits_lem g h = refl

low_half : (x : ℕ) → drop 16 (bits 32 x) ≡ bits 16 x
low_half x = ap (drop 16) (bits_split 16 16 x) ∙ drop_at (bits 16 (x / 2 ^ 16)) (bits 16 x) 16 (length_bits 16 _)

high_half : (x : ℕ) → take 16 (bits 32 x) ≡ bits 16 (x / 2 ^ 16)
high_half x = ap (take 16) (bits_split 16 16 x) ∙ take_at (bits 16 (x / 2 ^ 16)) (bits 16 x) 16 (length_bits 16 _)

halves_word : (x y r : ℕ) → x < 2 ^ 32 → y < 2 ^ 32 → r ≡ (x % 2 ^ 16 * 2 ^ 16 + y % 2 ^ 16) * 2 ^ 32 + (x / 2 ^ 16 * 2 ^ 16 + y / 2 ^ 16)
    → bits 64 r ≡ (drop 16 (bits 32 x) ++ drop 16 (bits 32 y)) ++ (take 16 (bits 32 x) ++ take 16 (bits 32 y))
halves_word x y r h k e =
    ap (bits 64) e
    ∙ bits_join 32 32 (x % 2 ^ 16 * 2 ^ 16 + y % 2 ^ 16) (x / 2 ^ 16 * 2 ^ 16 + y / 2 ^ 16) (digits_lt {m = 2 ^ 16} (shr_lt 16 16 h) (shr_lt 16 16 k))
    ∙ ap₂ ◌++◌
    (bits_join 16 16 (x % 2 ^ 16) (y % 2 ^ 16) (omega arith)
    ∙ ap₂ ◌++◌ (bits_mod 16 16 x (le_refl 16) ∙ sym (low_half x)) (bits_mod 16 16 y (le_refl 16) ∙ sym (low_half y)))
    (bits_join 16 16 (x / 2 ^ 16) (y / 2 ^ 16) (omega arith) ∙ ap₂ ◌++◌ (sym (high_half x)) (sym (high_half y)))

pub key_word : (c d x y r : ℕ) → x < 2 ^ 32 → y < 2 ^ 32
    → bits 32 x ≡ pc2_bits 0 (c / 2 ^ 21) ⊞ (pc2_bits 1 (c / 2 ^ 14) ⊞ (pc2_bits 2 (c / 2 ^ 7) ⊞ pc2_bits 3 c))
    → bits 32 y ≡ pc2_bits 4 (d / 2 ^ 21) ⊞ (pc2_bits 5 (d / 2 ^ 14) ⊞ (pc2_bits 6 (d / 2 ^ 7) ⊞ pc2_bits 7 d))
    → r ≡ (x % 2 ^ 16 * 2 ^ 16 + y % 2 ^ 16) * 2 ^ 32 + (x / 2 ^ 16 * 2 ^ 16 + y / 2 ^ 16)
    → key_bits r ≡ select PC2 (bits 28 c ++ bits 28 d)
key_word c d x y r h k p q e =
    key_groups r
    ∙ ap groups (halves_word x y r h k e)
    ∙ ap₂ (λ (a b : List Bool). groups ((drop 16 a ++ drop 16 b) ++ (take 16 a ++ take 16 b))) (half_c c x p) (half_d d y q)
    ∙ key_bits_lem (bit_at c) (bit_at d)
    ∙ ap₂ (λ (a b : List Bool). select PC2 (a ++ b)) (sym (bits_down 28 c)) (sym (bits_down 28 d))

-- ---- the loop over the rounds

pub keys_step : (i c d c' d' k : ℕ) → i < 16 → bits 28 c' ≡ left_shift (get_or shifts i 0) (bits 28 c) → bits 28 d' ≡ left_shift (get_or shifts i 0) (bits 28 d)
    → key_bits k ≡ select PC2 (bits 28 c' ++ bits 28 d')
    → key_bits k ∷ keys_from (drop (suc i) shifts) (bits 28 c') (bits 28 d') ≡ keys_from (drop i shifts) (bits 28 c) (bits 28 d)
unfolding keys_from shifts
keys_step i c d c' d' k h p q e =
    ap₂ ◌∷◌ (e ∙ ap₂ (λ (a b : List Bool). select PC2 (a ++ b)) p q) (ap₂ (keys_from (drop (suc i) shifts)) p q)
    ∙ ap (λ (ns : List ℕ). keys_from ns (bits 28 c) (bits 28 d)) (sym (drop-cons shifts i 0 h))

pub no_keys : (c d : List Bool) → keys_from (drop 16 shifts) c d ≡ []
unfolding keys_from shifts
no_keys c d = refl

-- i round keys are made, c and d are those of round i; goal is what all of them are to be
pub record Keys (goal : List (List Bool)) (c d : ℕ) (ks : List ℕ) (i : ℕ) : Type 0 where
  pub within : i ≤ 16
  pub long : length ks ≡ 16
  pub rest : map key_bits (take i ks) ++ keys_from (drop i shifts) (bits 28 c) (bits 28 d) ≡ goal

pub keys_start : {goal : List (List Bool)} (c d : ℕ) (ks : List ℕ) → length ks ≡ 16 → keys_from shifts (bits 28 c) (bits 28 d) ≡ goal → Keys goal c d ks 0
keys_start c d ks h e = record { within = omega arith; long = h; rest = e }

pub keys_turn : {goal : List (List Bool)} {c d : ℕ} {ks : List ℕ} {i : ℕ} (c' d' k : ℕ) → Keys goal c d ks i → i < 16
    → bits 28 c' ≡ left_shift (get_or shifts i 0) (bits 28 c) → bits 28 d' ≡ left_shift (get_or shifts i 0) (bits 28 d)
    → key_bits k ≡ select PC2 (bits 28 c' ++ bits 28 d') → Keys goal c' d' (set ks i k) (i + 1)
keys_turn {goal} {c} {d} {ks} {i} c' d' k r h p q e =
    record {
      within = omega arith;
      long = length-set ks i k ∙ r.long;
      rest =
          rw (add-one i)
          (ap (λ (l : List (List Bool)). l ++ keys_from (drop (suc i) shifts) (bits 28 c') (bits 28 d'))
          (ap (map key_bits) (take-suc-set ks i k (omega (arith, r.long))) ∙ map-append key_bits (take i ks) (k ∷ []))
          ∙ append_assoc (map key_bits (take i ks)) (key_bits k ∷ []) (keys_from (drop (suc i) shifts) (bits 28 c') (bits 28 d'))
          ∙ ap (λ (l : List (List Bool)). map key_bits (take i ks) ++ l) (keys_step i c d c' d' k h p q e)
          ∙ r.rest);
    }

pub keys_done : {goal : List (List Bool)} {c d : ℕ} {ks : List ℕ} {i : ℕ} → Keys goal c d ks i → 16 ≤ i → map key_bits ks ≡ goal
keys_done {goal} {c} {d} {ks} {i} r h =
    let e : i ≡ 16 = omega arith in
    sym (append-nil (map key_bits ks)) ∙ ap₂ ◌++◌ (ap (map key_bits) (sym (take_all 16 ks (omega arith)))) (sym (no_keys (bits 28 c) (bits 28 d))) ∙ rw e at r.rest

-- ---- the last key first

pub no_keys_back : (c d : List Bool) → keys_back 0 c d ≡ []
unfolding keys_back
no_keys_back c d = refl

pub keys_step_back : (i c d c' d' k : ℕ) → bits 28 c' ≡ left_shift (28 - get_or shifts i 0) (bits 28 c) → bits 28 d' ≡ left_shift (28 - get_or shifts i 0) (bits 28 d)
    → key_bits k ≡ select PC2 (bits 28 c ++ bits 28 d) → key_bits k ∷ keys_back i (bits 28 c') (bits 28 d') ≡ keys_back (suc i) (bits 28 c) (bits 28 d)
unfolding keys_back
keys_step_back i c d c' d' k p q e = ap₂ ◌∷◌ e (ap₂ (keys_back i) p q)

-- the shifts are 28 places in all, so that C16 is C0
back_down : (g h : ℕ → Bool) → keys_back 16 (down 28 g) (down 28 h) ≡ reverse (keys_from shifts (down 28 g) (down 28 h))
unfolding keys_back keys_from shifts left_shift down
back_down g h = refl

pub keys_back_lem : (c d : ℕ) → keys_back 16 (bits 28 c) (bits 28 d) ≡ reverse (keys_from shifts (bits 28 c) (bits 28 d))
keys_back_lem c d =
    ap₂ (keys_back 16) (bits_down 28 c) (bits_down 28 d)
    ∙ back_down (bit_at c) (bit_at d)
    ∙ ap₂ (λ (a b : List Bool). reverse (keys_from shifts a b)) (sym (bits_down 28 c)) (sym (bits_down 28 d))
