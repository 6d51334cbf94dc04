-- Bits of words: the bit of a number at a place, and what arithmetic on words does to their bits; sums and choices of bits. Assumes nothing.
use mathlib.Core.Path.{◌≡◌, refl, sym, ap, ap₂, ◌∙◌}
use mathlib.Core.Bool.{Bool, true, false}
use mathlib.Core.List.{List, [], ◌∷◌, ◌++◌, append_assoc, append-nil}
use Prim.Native.Nat.{ℕ, zero, suc, ◌+◌, ◌-◌, ◌*◌, ◌/◌, ◌%◌, ◌^◌, ◌≤◌, ◌<◌, min}
use native.Mathlib.Nat.{mod-lt, add-zero, add-suc, suc-add, zero-add, div-one, mul-one, le_refl, mul_assoc, add_assoc, pow-suc, div-eq_of_lt, lt_of_lt_of_le}
use native.Mathlib.Numerals.{add-one, one-add}
use native.Mathlib.Decide.{dec_le}
use native.Mathlib.Omega.{arith}
use lib.Arith.{digits_div, digits_mod, digits_lt, lt-one}
use borrow.Author.Tests.{le-leb, lt-leb}
use lib.Dec.{leb, lit<}
use lib.ListN.{length, take, drop, get_or, replicate, length-append, length-replicate, replicate-append-replicate, length-take, length-drop, take-append-drop}
use lib.Seq.{take_at, drop_at, length-take-le}
use lib.Pow.{pow_pos, pow_mono, pow-add, shr-shr, shl-shr, field, mod-mod-pow, split, shr_lt}
use lib.Bits.{bit_xor, bit_and, bit_or, or_comm, or_shifted, differ, and_step, xor_shr, and_shr, block_half, block_odd, shifted_even}
use Rattle.cipher.specs.Bits.{bool, digit, bits, num, num_from, differs, ◌⊞◌, to_bits, to_bytes}
use Rattle.cipher.specs.Bytes.{Bytes}
use Rattle.cipher.specs.Fips46.{select, left_shift}
use Rattle.cipher.specs.inner.DesTables.{among}
use Rattle.cipher.proofs.Xor.{xor_odd}

-- ---- the bit at a place, counted from the lowest

unfoldable pub bit_at : ℕ → ℕ → Bool
bit_at x j = bool (x / 2 ^ j % 2)

-- the list of g (n - 1), .., g 0
unfoldable pub down : ℕ → (ℕ → Bool) → List Bool
down zero g = []
down (suc n) g = g n ∷ down n g

pub down_ext : (n : ℕ) (g h : ℕ → Bool) → ((j : ℕ) → j < n → g j ≡ h j) → down n g ≡ down n h
unfolding down
down_ext zero g h e = refl
down_ext (suc n) g h e = ap₂ ◌∷◌ (e n (omega arith)) (down_ext n g h (λ j l. e j (omega arith)))

down_snoc : (n : ℕ) (g : ℕ → Bool) → down (suc n) g ≡ down n (λ j. g (suc j)) ++ (g 0 ∷ [])
unfolding down
down_snoc zero g = refl
down_snoc (suc n) g = ap (λ (l : List Bool). g (suc n) ∷ l) (down_snoc n g)

pub bit_shr : (x s j : ℕ) → bit_at (x / 2 ^ s) j ≡ bit_at x (s + j)
unfolding bit_at
bit_shr x s j = ap (λ (y : ℕ). bool (y % 2)) (shr-shr x s j)

bit_zero : (x : ℕ) → bool (x % 2) ≡ bit_at x 0
unfolding bit_at
bit_zero x = ap (λ (y : ℕ). bool (y % 2)) (sym (div-one x))

pub bits_down : (n x : ℕ) → bits n x ≡ down n (bit_at x)
unfolding bits down
bits_down zero x = refl
bits_down (suc n) x =
    ap₂ (λ (l : List Bool) (b : Bool). l ++ (b ∷ []))
    (bits_down n (x / 2) ∙ down_ext n (bit_at (x / 2)) (λ j. bit_at x (suc j)) (λ j l. bit_shr x 1 j ∙ ap (bit_at x) (one-add j)))
    (bit_zero x)
    ∙ sym (down_snoc n (bit_at x))

pub bits_shr : (n s x : ℕ) → bits n (x / 2 ^ s) ≡ down n (λ j. bit_at x (s + j))
bits_shr n s x = bits_down n (x / 2 ^ s) ∙ down_ext n _ _ (λ j l. bit_shr x s j)

pub length_bits : (n x : ℕ) → length (bits n x) ≡ n
unfolding bits
length_bits zero x = refl
length_bits (suc n) x = length-append (bits n (x / 2)) _ ∙ add-one (length (bits n (x / 2))) ∙ ap suc (length_bits n (x / 2))

pub bit_mod : (x w j : ℕ) → j < w → bit_at (x % 2 ^ w) j ≡ bit_at x j
unfolding bit_at
bit_mod x w j h =
    let k : ℕ = w - j - 1 in
    let e : w ≡ (k + 1) + j = omega arith in
    ap (λ (y : ℕ). bool (x % 2 ^ y / 2 ^ j % 2)) e
    ∙ ap (λ (y : ℕ). bool (y % 2)) (field x (k + 1) j)
    ∙ ap bool (mod-mod-pow (x / 2 ^ j) k 1)

pub bits_mod : (n w x : ℕ) → n ≤ w → bits n (x % 2 ^ w) ≡ bits n x
bits_mod n w x h = bits_down n (x % 2 ^ w) ∙ down_ext n _ _ (λ j l. bit_mod x w j (omega arith)) ∙ sym (bits_down n x)

-- ---- exclusive or, and, shifts

two_pos : 0 < 2
two_pos = lit< tt

bool_differ : (x y : ℕ) → x < 2 → y < 2 → bool (differ x y) ≡ differs (bool x) (bool y)
unfolding bool differs
bool_differ zero y h k = refl
bool_differ (suc zero) zero h k = refl
bool_differ (suc zero) (suc zero) h k = refl
bool_differ (suc zero) (suc (suc y)) h k = absurd (omega arith)
bool_differ (suc (suc x)) y h k = absurd (omega arith)

pub bit_xor_lem : (x y j : ℕ) → bit_at (bit_xor x y) j ≡ differs (bit_at x j) (bit_at y j)
unfolding bit_at
bit_xor_lem x y j =
    ap (λ (z : ℕ). bool (z % 2)) (xor_shr x y j)
    ∙ ap bool (xor_odd (x / 2 ^ j) (y / 2 ^ j))
    ∙ bool_differ (x / 2 ^ j % 2) (y / 2 ^ j % 2) (mod-lt (x / 2 ^ j) two_pos) (mod-lt (y / 2 ^ j) two_pos)

-- the bit b where the mask's bit is set
abbrev pub under : Bool → Bool → Bool
under b true = b
under b false = false

bool_min : (x y : ℕ) → x < 2 → y < 2 → bool (min x y) ≡ under (bool x) (bool y)
unfolding bool
bool_min zero zero h k = refl
bool_min zero (suc zero) h k = refl
bool_min zero (suc (suc y)) h k = absurd (omega arith)
bool_min (suc zero) zero h k = refl
bool_min (suc zero) (suc zero) h k = refl
bool_min (suc zero) (suc (suc y)) h k = absurd (omega arith)
bool_min (suc (suc x)) y h k = absurd (omega arith)

min_lt : (x y : ℕ) → x < 2 → min x y < 2
min_lt x y h = omega arith

pub bit_and_lem : (x y j : ℕ) → bit_at (bit_and x y) j ≡ under (bit_at x j) (bit_at y j)
unfolding bit_at
bit_and_lem x y j =
    let a : ℕ = x / 2 ^ j in
    let b : ℕ = y / 2 ^ j in
    ap (λ (z : ℕ). bool (z % 2)) (and_shr x y j)
    ∙ ap (λ (z : ℕ). bool (z % 2)) (and_step a b)
    ∙ ap bool (digits_mod (bit_and (a / 2) (b / 2)) (min_lt (a % 2) (b % 2) (mod-lt a two_pos)))
    ∙ bool_min (a % 2) (b % 2) (mod-lt a two_pos) (mod-lt b two_pos)

abbrev pub if_set : Bool → Bool → Bool
if_set true b = b
if_set false b = false

-- the bits g, s places up
abbrev pub up : ℕ → (ℕ → Bool) → ℕ → Bool
up s g j = if_set (leb s j) (g (j - s))

down-⊞ : (n : ℕ) (g h : ℕ → Bool) → down n (λ j. differs (g j) (h j)) ≡ down n g ⊞ down n h
unfolding down ◌⊞◌
down-⊞ zero g h = refl
down-⊞ (suc n) g h = ap (λ (l : List Bool). differs (g n) (h n) ∷ l) (down-⊞ n g h)

pub bits_xor : (n x y : ℕ) → bits n (bit_xor x y) ≡ bits n x ⊞ bits n y
bits_xor n x y =
    bits_down n (bit_xor x y)
    ∙ down_ext n _ _ (λ j l. bit_xor_lem x y j)
    ∙ down-⊞ n (bit_at x) (bit_at y)
    ∙ ap₂ ◌⊞◌ (sym (bits_down n x)) (sym (bits_down n y))

bit_clear : (x k j : ℕ) → bit_at (x * 2 ^ (suc k + j)) j ≡ false
unfolding bit_at bool
bit_clear x k j =
    ap (λ (y : ℕ). bool (x * y / 2 ^ j % 2)) (pow-add 2 (suc k) j)
    ∙ ap (λ (y : ℕ). bool (y / 2 ^ j % 2)) (sym (mul_assoc x (2 ^ suc k) (2 ^ j)))
    ∙ ap (λ (y : ℕ). bool (y % 2)) (shl-shr (x * 2 ^ suc k) j)
    ∙ ap bool (shifted_even x k)

pub bit_shl : (x s w j : ℕ) → j < w → bit_at (x * 2 ^ s % 2 ^ w) j ≡ up s (bit_at x) j
bit_shl x s w j h = bit_mod (x * 2 ^ s) w j h ∙ go (dec_le s j)
  where
    go : Dec (s ≤ j) → bit_at (x * 2 ^ s) j ≡ up s (bit_at x) j
    go (yes p) =
        let e : j ≡ s + (j - s) = omega arith in
        rw (le-leb s j p)
        (ap (bit_at (x * 2 ^ s)) e ∙ sym (bit_shr (x * 2 ^ s) s (j - s)) ∙ ap (λ (y : ℕ). bit_at y (j - s)) (shl-shr x s))
    go (no p) =
        let e : s ≡ suc (s - j - 1) + j = omega arith in
        rw (lt-leb s j (omega arith)) (ap (λ (y : ℕ). bit_at (x * 2 ^ y) j) e ∙ bit_clear x (s - j - 1) j)

pub bit_high : (x n j : ℕ) → x < 2 ^ n → n ≤ j → bit_at x j ≡ false
unfolding bit_at bool
bit_high x n j h k = ap (λ (y : ℕ). bool (y % 2)) (div-eq_of_lt (lt_of_lt_of_le h (pow_mono k)))

-- ---- words put together

pub bits_join : (m n x y : ℕ) → y < 2 ^ n → bits (m + n) (x * 2 ^ n + y) ≡ bits m x ++ bits n y
unfolding bits
bits_join m zero x y h =
    ap₂ bits (add-zero m) (ap₂ ◌+◌ (mul-one x) (lt-one h) ∙ add-zero x) ∙ sym (append-nil (bits m x))
bits_join m (suc n) x y h =
    ap (λ (k : ℕ). bits k (x * 2 ^ suc n + y)) (add-suc m n)
    ∙ ap₂ (λ (z o : ℕ). bits (m + n) z ++ (bool o ∷ [])) (block_half x n y) (block_odd x n y)
    ∙ ap (λ (l : List Bool). l ++ (bool (y % 2) ∷ [])) (bits_join m n x (y / 2) (shr_lt n 1 (rw (add-one n) h)))
    ∙ append_assoc (bits m x) (bits n (y / 2)) (bool (y % 2) ∷ [])

pub bits_split : (m n x : ℕ) → bits (m + n) x ≡ bits m (x / 2 ^ n) ++ bits n x
bits_split m n x =
    ap (bits (m + n)) (sym (split x n))
    ∙ bits_join m n (x / 2 ^ n) (x % 2 ^ n) (mod-lt x (pow_pos n))
    ∙ ap (λ (l : List Bool). bits m (x / 2 ^ n) ++ l) (bits_mod n n x (le_refl n))

pub bits_rotate : (m n x : ℕ) → x < 2 ^ (m + n) → bits (n + m) (x % 2 ^ n * 2 ^ m + x / 2 ^ n) ≡ left_shift m (bits (m + n) x)
unfolding left_shift
bits_rotate m n x h =
    bits_join n m (x % 2 ^ n) (x / 2 ^ n) (shr_lt m n h)
    ∙ ap₂ ◌++◌ (bits_mod n n x (le_refl n) ∙ sym (drop_at (bits m (x / 2 ^ n)) (bits n x) m (length_bits m (x / 2 ^ n))))
    (sym (take_at (bits m (x / 2 ^ n)) (bits n x) m (length_bits m (x / 2 ^ n))))
    ∙ ap (left_shift m) (sym (bits_split m n x))

-- the same by shifts, at w bits: what `rotate_left` and `rotate_right` compute
turned_parts : (m n x : ℕ) → x < 2 ^ (m + n) → bits (n + m) (bit_or (x * 2 ^ m % 2 ^ (n + m)) (x / 2 ^ n)) ≡ left_shift m (bits (m + n) x)
turned_parts m n x h =
    ap (λ (y : ℕ). bits (n + m) (bit_or y (x / 2 ^ n))) shl_low
    ∙ ap (bits (n + m)) (or_shifted (x % 2 ^ n) m (x / 2 ^ n) (shr_lt m n h))
    ∙ bits_rotate m n x h
  where
    -- what a shift leaves of x are its n low bits
    shl_low : x * 2 ^ m % 2 ^ (n + m) ≡ x % 2 ^ n * 2 ^ m
    shl_low =
        let e : (x / 2 ^ n * 2 ^ n + x % 2 ^ n) * 2 ^ m ≡ x * 2 ^ m = ap (λ (y : ℕ). y * 2 ^ m) (split x n) in
        let k : x * 2 ^ m ≡ x / 2 ^ n * (2 ^ n * 2 ^ m) + x % 2 ^ n * 2 ^ m = omega (arith, e) in
        let d = digits_lt {r = 0} (mod-lt x (pow_pos n)) (pow_pos m) in
        let b : x % 2 ^ n * 2 ^ m < 2 ^ n * 2 ^ m = omega (arith, d) in
        ap (λ (y : ℕ). x * 2 ^ m % y) (pow-add 2 n m) ∙ ap (λ (y : ℕ). y % (2 ^ n * 2 ^ m)) k ∙ digits_mod (x / 2 ^ n) b

pub turned_word : (w m x : ℕ) → m ≤ w → x < 2 ^ w → bits w (bit_or (x * 2 ^ m % 2 ^ w) (x / 2 ^ (w - m))) ≡ left_shift m (bits w x)
turned_word w m x h b =
    let p : m + (w - m) ≡ w = omega arith in
    let q : w - m + m ≡ w = omega arith in
    let r : bits (w - m + m) (bit_or (x * 2 ^ m % 2 ^ (w - m + m)) (x / 2 ^ (w - m))) ≡ left_shift m (bits (m + (w - m)) x) = turned_parts m (w - m) x (rw p b) in
    rw (p, q) at r

pub turned_back_word : (w m x : ℕ) → m ≤ w → x < 2 ^ w → bits w (bit_or (x / 2 ^ (w - m)) (x * 2 ^ m % 2 ^ w)) ≡ left_shift m (bits w x)
turned_back_word w m x h b = ap (bits w) (or_comm (x / 2 ^ (w - m)) (x * 2 ^ m % 2 ^ w)) ∙ turned_word w m x h b

-- ---- numbers of bits

num_snoc : (x : ℕ) (l : List Bool) (b : Bool) → num_from x (l ++ (b ∷ [])) ≡ num_from x l * 2 + digit b
unfolding num_from
num_snoc x [] b = refl
num_snoc x (c ∷ l) b = num_snoc (x * 2 + digit c) l b

digit_bool : (x : ℕ) → x < 2 → digit (bool x) ≡ x
unfolding digit bool
digit_bool zero h = refl
digit_bool (suc zero) h = refl
digit_bool (suc (suc x)) h = absurd (omega arith)

pub num_bits : (n x : ℕ) → x < 2 ^ n → num (bits n x) ≡ x
unfolding num bits num_from
num_bits zero x h = sym (lt-one h)
num_bits (suc n) x h =
    num_snoc 0 (bits n (x / 2)) (bool (x % 2))
    ∙ ap₂ (λ (y z : ℕ). y * 2 + z) (num_bits n (x / 2) (shr_lt n 1 (rw (add-one n) h))) (digit_bool (x % 2) (mod-lt x two_pos))
    ∙ split x 1

pub num_low : (n x : ℕ) → num (bits n x) ≡ x % 2 ^ n
num_low n x = ap num (sym (bits_mod n n x (le_refl n))) ∙ num_bits n (x % 2 ^ n) (mod-lt x (pow_pos n))

bool_digit : (x : ℕ) (b : Bool) → bool ((x * 2 + digit b) % 2) ≡ b
unfolding bool digit
bool_digit x false = ap bool (digits_mod x (lit< tt))
bool_digit x true = ap bool (digits_mod x (lit< tt))

half_digit : (x : ℕ) (b : Bool) → (x * 2 + digit b) / 2 ≡ x
unfolding digit
half_digit x false = digits_div x (lit< tt)
half_digit x true = digits_div x (lit< tt)

bits_num_from : (m x : ℕ) (l : List Bool) → bits (m + length l) (num_from x l) ≡ bits m x ++ l
unfolding bits num_from
bits_num_from m x [] = ap (λ (k : ℕ). bits k x) (add-zero m) ∙ sym (append-nil (bits m x))
bits_num_from m x (b ∷ l) =
    ap (λ (k : ℕ). bits k (num_from (x * 2 + digit b) l)) (add-suc m (length l) ∙ sym (suc-add m (length l)))
    ∙ bits_num_from (suc m) (x * 2 + digit b) l
    ∙ ap₂ (λ (y : ℕ) (c : Bool). bits m y ++ (c ∷ []) ++ l) (half_digit x b) (bool_digit x b)
    ∙ append_assoc (bits m x) (b ∷ []) l

pub bits_num : (n : ℕ) (l : List Bool) → length l ≡ n → bits n (num l) ≡ l
unfolding num bits
bits_num n l h = ap (λ (k : ℕ). bits k (num_from 0 l)) (sym h ∙ sym (zero-add (length l))) ∙ bits_num_from 0 0 l

digit_lt : (b : Bool) → digit b < 2
unfolding digit
digit_lt false = lit< tt
digit_lt true = lit< tt

num_from_lt : (n x : ℕ) (l : List Bool) → x < 2 ^ n → num_from x l < 2 ^ (n + length l)
unfolding num_from
num_from_lt n x [] h = rw (add-zero n) h
num_from_lt n x (b ∷ l) h = rw (add-suc n (length l), ← suc-add n (length l)) (num_from_lt (suc n) (x * 2 + digit b) l (rw pow-suc (digits_lt h (digit_lt b))))

pub num_lt : (l : List Bool) → num l < 2 ^ length l
unfolding num
num_lt l = rw zero-add at (num_from_lt 0 0 l (lit< tt))

-- a string of bits by its places
pub down_num : (n : ℕ) (l : List Bool) → length l ≡ n → l ≡ down n (bit_at (num l))
down_num n l h = sym (bits_num n l h) ∙ bits_down n (num l)

-- ---- strings of bytes

pub length_to_bytes : (n : ℕ) (b : List Bool) → length (to_bytes n b) ≡ n
unfolding to_bytes
length_to_bytes zero b = refl
length_to_bytes (suc n) b = ap suc (length_to_bytes n (drop 8 b))

pub Bytes-toBytes : (n : ℕ) (b : List Bool) → Bytes (to_bytes n b)
unfolding to_bytes
Bytes-toBytes zero b i = lit< tt
Bytes-toBytes (suc n) b zero =
    let h : length (take 8 b) ≤ 8 = rw length-take (omega arith) in
    lt_of_lt_of_le (num_lt (take 8 b)) (pow_mono h)
Bytes-toBytes (suc n) b (suc i) = Bytes-toBytes n (drop 8 b) i

pub to_bits_to_bytes : (n : ℕ) (b : List Bool) → length b ≡ n * 8 → to_bits (to_bytes n b) ≡ b
unfolding to_bits to_bytes
to_bits_to_bytes zero [] h = refl
to_bits_to_bytes zero (x ∷ b) h = absurd (omega arith)
to_bits_to_bytes (suc n) b h =
    ap₂ ◌++◌ (bits_num 8 (take 8 b) (length-take-le 8 b (omega arith))) (to_bits_to_bytes n (drop 8 b) (rw length-drop (omega arith)))
    ∙ take-append-drop 8 b

pub to_bytes_to_bits : (n : ℕ) (s : List ℕ) → length s ≡ n → Bytes s → to_bytes n (to_bits s) ≡ s
unfolding to_bits to_bytes
to_bytes_to_bits zero [] h k = refl
to_bytes_to_bits zero (x ∷ s) h k = absurd (omega arith)
to_bytes_to_bits (suc n) [] h k = absurd (omega arith)
to_bytes_to_bits (suc n) (x ∷ s) h k =
    ap₂ (λ (a b : List Bool). num a ∷ to_bytes n b) (take_at (bits 8 x) (to_bits s) 8 (length_bits 8 x)) (drop_at (bits 8 x) (to_bits s) 8 (length_bits 8 x))
    ∙ ap₂ ◌∷◌ (num_bits 8 x (k 0)) (to_bytes_to_bits n s (omega arith) (λ i. k (suc i)))

pub length_to_bits : (s : List ℕ) → length (to_bits s) ≡ length s * 8
unfolding to_bits
length_to_bits [] = refl
length_to_bits (x ∷ s) = length-append (bits 8 x) (to_bits s) ∙ omega (arith, length_bits 8 x, length_to_bits s)

-- ---- sums and choices of bits

pub get_or-⊞ : (a b : List Bool) (i : ℕ) → length a ≡ length b → get_or (a ⊞ b) i false ≡ differs (get_or a i false) (get_or b i false)
unfolding ◌⊞◌ differs
get_or-⊞ [] [] i h = refl
get_or-⊞ [] (y ∷ b) i h = absurd (omega arith)
get_or-⊞ (x ∷ a) [] i h = absurd (omega arith)
get_or-⊞ (x ∷ a) (y ∷ b) zero h = refl
get_or-⊞ (x ∷ a) (y ∷ b) (suc i) h = get_or-⊞ a b i (omega arith)

pub select-⊞ : (ps : List ℕ) (a b : List Bool) → length a ≡ length b → select ps (a ⊞ b) ≡ select ps a ⊞ select ps b
unfolding select ◌⊞◌
select-⊞ [] a b h = refl
select-⊞ (p ∷ ps) a b h = ap₂ ◌∷◌ (get_or-⊞ a b (p - 1) h) (select-⊞ ps a b h)

pub length_select : (ps : List ℕ) (b : List Bool) → length (select ps b) ≡ length ps
unfolding select
length_select [] b = refl
length_select (p ∷ ps) b = ap suc (length_select ps b)

pub ⊞-append : (a b c d : List Bool) → length a ≡ length c → (a ++ b) ⊞ (c ++ d) ≡ (a ⊞ c) ++ (b ⊞ d)
unfolding ◌⊞◌
⊞-append [] b [] d h = refl
⊞-append [] b (y ∷ c) d h = absurd (omega arith)
⊞-append (x ∷ a) b [] d h = absurd (omega arith)
⊞-append (x ∷ a) b (y ∷ c) d h = ap (λ (l : List Bool). differs x y ∷ l) (⊞-append a b c d (omega arith))

pub length-⊞ : (a b : List Bool) → length a ≡ length b → length (a ⊞ b) ≡ length a
unfolding ◌⊞◌
length-⊞ [] b h = refl
length-⊞ (x ∷ a) [] h = absurd (omega arith)
length-⊞ (x ∷ a) (y ∷ b) h = ap suc (length-⊞ a b (omega arith))

differs_twice : (x y : Bool) → differs (differs x y) y ≡ x
unfolding differs
differs_twice false false = refl
differs_twice false true = refl
differs_twice true false = refl
differs_twice true true = refl

pub ⊞-twice : (a b : List Bool) → length a ≡ length b → a ⊞ b ⊞ b ≡ a
unfolding ◌⊞◌
⊞-twice [] b h = refl
⊞-twice (x ∷ a) [] h = absurd (omega arith)
⊞-twice (x ∷ a) (y ∷ b) h = ap₂ ◌∷◌ (differs_twice x y) (⊞-twice a b (omega arith))

differs_false : (b : Bool) → differs b false ≡ b
unfolding differs
differs_false false = refl
differs_false true = refl

zeros-⊞ : (n : ℕ) (b : List Bool) → length b ≡ n → replicate n false ⊞ b ≡ b
unfolding ◌⊞◌ differs
zeros-⊞ zero [] h = refl
zeros-⊞ zero (x ∷ b) h = absurd (omega arith)
zeros-⊞ (suc n) [] h = absurd (omega arith)
zeros-⊞ (suc n) (x ∷ b) h = ap (λ (l : List Bool). x ∷ l) (zeros-⊞ n b (omega arith))

⊞-zeros : (n : ℕ) (b : List Bool) → length b ≡ n → b ⊞ replicate n false ≡ b
unfolding ◌⊞◌
⊞-zeros zero [] h = refl
⊞-zeros zero (x ∷ b) h = absurd (omega arith)
⊞-zeros (suc n) [] h = absurd (omega arith)
⊞-zeros (suc n) (x ∷ b) h = ap₂ ◌∷◌ (differs_false x) (⊞-zeros n b (omega arith))

pub length_among : (p q : ℕ) (b : List Bool) → length (among p q b) ≡ p + (length b + q)
unfolding among
length_among p q b =
    length-append (replicate p false) _
    ∙ ap₂ ◌+◌ (length-replicate p false) (length-append b _ ∙ ap (λ (n : ℕ). length b + n) (length-replicate q false))

-- two strings side by side among zeros are the sum of each in its place
pub among_append : (p q m n : ℕ) (a b : List Bool) → length a ≡ m → length b ≡ n
    → among p q (a ++ b) ≡ among p (n + q) a ⊞ among (p + m) q b
unfolding among
among_append p q m n a b h k =
    let zp : List Bool = replicate p false in
    let zq : List Bool = replicate q false in
    let f : zp ⊞ zp ≡ zp = zeros-⊞ p zp (length-replicate p false) in
    let g : a ⊞ replicate m false ≡ a = ⊞-zeros m a h in
    let i : replicate n false ⊞ b ≡ b = zeros-⊞ n b k in
    let j : zq ⊞ zq ≡ zq = zeros-⊞ q zq (length-replicate q false) in
    sym
    (rw (← replicate-append-replicate n q false, ← replicate-append-replicate p m false)
    (ap (λ (l : List Bool). (zp ++ (a ++ (replicate n false ++ zq))) ⊞ l) (append_assoc zp (replicate m false) (b ++ zq))
    ∙ ⊞-append zp (a ++ (replicate n false ++ zq)) zp (replicate m false ++ (b ++ zq)) refl
    ∙ ap₂ ◌++◌ f
    (⊞-append a (replicate n false ++ zq) (replicate m false) (b ++ zq) (h ∙ sym (length-replicate m false))
    ∙ ap₂ ◌++◌ g (⊞-append (replicate n false) zq b zq (length-replicate n false ∙ sym k) ∙ ap₂ ◌++◌ i j)
    ∙ sym (append_assoc a b zq))))

pub select_append : (ps : List ℕ) (p q m n : ℕ) (a b : List Bool) → length a ≡ m → length b ≡ n
    → select ps (among p q (a ++ b)) ≡ select ps (among p (n + q) a) ⊞ select ps (among (p + m) q b)
select_append ps p q m n a b h k =
    ap (select ps) (among_append p q m n a b h k)
    ∙ select-⊞ ps (among p (n + q) a) (among (p + m) q b)
    (length_among p (n + q) a ∙ ap (λ (x : ℕ). p + (x + (n + q))) h ∙ rw (length_among, k, add_assoc))
