-- Blocks as words, and the exchanges of bits that make IP, its inverse and the transpose. Assumes nothing.
use mathlib.Core.Path.{◌≡◌, refl, sym, ap, ap₂, ◌∙◌}
use mathlib.Core.Bool.{Bool, true, false}
use mathlib.Core.List.{List, [], ◌∷◌, ◌++◌, append-nil, reverse}
use Prim.Native.Nat.{ℕ, suc, ◌+◌, ◌-◌, ◌*◌, ◌/◌, ◌%◌, ◌^◌, ◌≤◌, ◌<◌}
use native.Mathlib.Nat.{le_refl, div-one}
use native.Mathlib.Decide.{dec_le}
use native.Mathlib.Omega.{arith}
use borrow.Author.Tests.{le-leb, lt-leb}
use lib.Dec.{leb, lit<}
use lib.Pow.{high, low}
use lib.Bits.{bit_and, bit_xor}
use lib.ListN.{length, get_or}
use lib.Seq.{take_at, drop_at}
use Rattle.cipher.specs.Bits.{bool, bits, num, differs, to_bits, to_bytes}
use Rattle.std.specs.Int.{from_le_bytes, to_le_bytes}
use mir.Syntax.{w64}
use Rattle.cipher.specs.Bytes.{Bytes, tab}
use Rattle.cipher.specs.Fips46.{select, left_shift, IP, IP⁻¹}
use Rattle.cipher.specs.inner.DesTables.{delta_swap, transposed, held}
use Rattle.cipher.proofs.BitWords.{bit_at, down, down_ext, bits_down, bits_shr, length_bits, bits_mod, bit_shr, bit_xor_lem, bit_and_lem, bit_high, under, if_set, up}
use Rattle.cipher.proofs.BitWords.{bit_shl, bits_join, bits_split, num_low}
use Rattle.cipher.proofs.Tabulation.{listed}

-- ---- delta swaps

-- the bit of a delta swap: its own, the one above where the mask names its place, the one below where the mask names that
abbrev swap_bit : Bool → Bool → Bool → Bool → Bool → Bool
swap_bit false false own above below = own
swap_bit true false own above below = above
swap_bit false true own above below = below
swap_bit true true own above below = differs (differs own (differs own above)) (differs below own)

swap_bit_lem : (m n x y z : Bool) → differs (differs x (under (differs x y) m)) (under (differs z x) n) ≡ swap_bit m n x y z
unfolding differs
swap_bit_lem false false false y z = refl
swap_bit_lem false false true y z = refl
swap_bit_lem true false false false z = refl
swap_bit_lem true false false true z = refl
swap_bit_lem true false true false z = refl
swap_bit_lem true false true true z = refl
swap_bit_lem false true false y false = refl
swap_bit_lem false true false y true = refl
swap_bit_lem false true true y false = refl
swap_bit_lem false true true y true = refl
swap_bit_lem true true x y z = refl

-- the bits g with those that m names and those s places above them exchanged
abbrev swap : ℕ → (ℕ → Bool) → (ℕ → Bool) → ℕ → Bool
swap s m g j = swap_bit (m j) (up s m j) (g j) (g (s + j)) (up s g j)

swap_mask : (x m s j : ℕ) → bit_at (bit_and (bit_xor x (x / 2 ^ s)) m) j ≡ under (differs (bit_at x j) (bit_at x (s + j))) (bit_at m j)
swap_mask x m s j =
    bit_and_lem (bit_xor x (x / 2 ^ s)) m j
    ∙ ap (λ (b : Bool). under b (bit_at m j)) (bit_xor_lem x (x / 2 ^ s) j ∙ ap (differs (bit_at x j)) (bit_shr x s j))

up_mask : (g m t : ℕ → Bool) (s j : ℕ) → ((i : ℕ) → t i ≡ under (differs (g i) (g (s + i))) (m i))
    → up s t j ≡ under (differs (up s g j) (g j)) (up s m j)
up_mask g m t s j e = go (dec_le s j)
  where
    go : Dec (s ≤ j) → up s t j ≡ under (differs (up s g j) (g j)) (up s m j)
    go (yes p) =
        let k : s + (j - s) ≡ j = omega arith in
        rw (le-leb s j p) (e (j - s) ∙ ap (λ (i : ℕ). under (differs (g (j - s)) (g i)) (m (j - s))) k)
    go (no p) = rw (lt-leb s j (omega arith))

swap_at : (x m s j : ℕ) → j < 64 → bit_at (delta_swap x m s) j ≡ swap s (bit_at m) (bit_at x) j
unfolding delta_swap
swap_at x m s j h =
    bit_xor_lem (bit_xor x (bit_and (bit_xor x (x / 2 ^ s)) m)) (bit_and (bit_xor x (x / 2 ^ s)) m * 2 ^ s % 2 ^ 64) j
    ∙ ap₂ differs
    (bit_xor_lem x (bit_and (bit_xor x (x / 2 ^ s)) m) j ∙ ap (differs (bit_at x j)) (swap_mask x m s j))
    (bit_shl (bit_and (bit_xor x (x / 2 ^ s)) m) s 64 j h
    ∙ up_mask (bit_at x) (bit_at m) (bit_at (bit_and (bit_xor x (x / 2 ^ s)) m)) s j (swap_mask x m s))
    ∙ swap_bit_lem (bit_at m j) (up s (bit_at m) j) (bit_at x j) (bit_at x (s + j)) (up s (bit_at x) j)

-- the two words' bits are the same, of which there are 64
abbrev pub Agree : (g h : ℕ → Bool) → Type 0
Agree g h = (j : ℕ) → j < 64 → g j ≡ h j

swap_agree : (g h : ℕ → Bool) (m s j : ℕ) → m < 2 ^ (64 - s) → Agree g h → j < 64 → swap s (bit_at m) g j ≡ swap s (bit_at m) h j
swap_agree g h m s j b e l = go (dec_le (64 - s) j)
  where
    below : up s g j ≡ up s h j
    below = ap (if_set (leb s j)) (e (j - s) (omega arith))

    go : Dec (64 - s ≤ j) → swap s (bit_at m) g j ≡ swap s (bit_at m) h j
    go (yes p) = rw (bit_high m (64 - s) j b p, e j l, below) (same (up s (bit_at m) j))
      where
        same : (n : Bool) → swap_bit false n (h j) (g (s + j)) (up s h j) ≡ swap_bit false n (h j) (h (s + j)) (up s h j)
        same false = refl
        same true = refl
    go (no p) = rw (e j l, below, e (s + j) (omega arith))

-- a delta swap with a mask all of whose bits have one s places above them
pub swapped : (x m s : ℕ) (g : ℕ → Bool) → m < 2 ^ (64 - s) → Agree (bit_at x) g → Agree (bit_at (delta_swap x m s)) (swap s (bit_at m) g)
swapped x m s g b e j l = swap_at x m s j l ∙ swap_agree (bit_at x) g m s j b e l

-- ---- the transpose

transpose_bits : (g : ℕ → Bool)
    → down 64 (swap 28 (bit_at 0xf0f0f0f0) (swap 14 (bit_at 0xcccc0000cccc) (swap 7 (bit_at 0xaa00aa00aa00aa) g))) ≡ select transposed (down 64 g)
unfolding bit_at bool down select transposed tab
transpose_bits g = refl

pub transpose_word : (x y z r : ℕ) → y ≡ delta_swap x 0xaa00aa00aa00aa 7 → z ≡ delta_swap y 0xcccc0000cccc 14 → r ≡ delta_swap z 0xf0f0f0f0 28
    → bits 64 r ≡ select transposed (bits 64 x)
transpose_word x y z r p q w =
    rw (w, q, p)
    (bits_down 64 _
    ∙ down_ext 64 _ _
    (swapped _ 0xf0f0f0f0 28 _ (lit< tt) (swapped _ 0xcccc0000cccc 14 _ (lit< tt) (swapped x 0xaa00aa00aa00aa 7 (bit_at x) (lit< tt) (λ j l. refl))))
    ∙ transpose_bits (bit_at x)
    ∙ ap (select transposed) (sym (bits_down 64 x)))

-- ---- bytes to words and back

-- the places of the bits when eight bytes are taken in the other order
unfoldable pub mirrored : List ℕ
mirrored = tab 64 (λ i. 56 - i / 8 * 8 + i % 8 + 1)

mirror_bytes : (h : ℕ → ℕ) → to_bits (tab 8 h) ≡ select mirrored (to_bits (reverse (tab 8 h)))
unfolding to_bits bits tab mirrored select
mirror_bytes h = refl

transpose_twice : (g : ℕ → Bool) → select transposed (select transposed (down 64 g)) ≡ down 64 g
unfolding select transposed tab down
transpose_twice g = refl

mirror_back : (g : ℕ → Bool) → reverse (to_bytes 8 (down 64 g)) ≡ to_bytes 8 (select mirrored (down 64 g))
unfolding to_bytes down select mirrored tab
mirror_back g = refl

-- the bits of a block from the transpose of its word
pub loaded : (block : List ℕ) (x y : ℕ) → length block ≡ 8 → bits 64 x ≡ to_bits (reverse block) → bits 64 y ≡ select transposed (bits 64 x)
    → to_bits block ≡ select mirrored (select transposed (down 64 (bit_at y)))
loaded block x y h p q =
    ap to_bits (listed 8 block h)
    ∙ mirror_bytes (λ i. get_or block i 0)
    ∙ ap (λ (l : List ℕ). select mirrored (to_bits (reverse l))) (sym (listed 8 block h))
    ∙ ap (select mirrored)
    (sym p
    ∙ bits_down 64 x
    ∙ sym (transpose_twice (bit_at x))
    ∙ ap (λ (l : List Bool). select transposed (select transposed l)) (sym (bits_down 64 x))
    ∙ ap (select transposed) (sym q ∙ bits_down 64 y))

-- ---- IP and its inverse

-- the two exchanges of rows
abbrev far : (ℕ → Bool) → ℕ → Bool
far = swap 24 (bit_at 0xff00ff00)

abbrev near : (ℕ → Bool) → ℕ → Bool
near = swap 8 (bit_at 0xff000000ff00)

initial_bits : (g : ℕ → Bool)
    → down 32 (near (far g)) ++ down 32 (λ j. near (far g) (32 + j)) ≡ select IP (select mirrored (select transposed (down 64 g)))
unfolding bit_at bool down select transposed mirrored tab IP
initial_bits g = refl

pub initial_word : (block : List ℕ) (x y z r : ℕ) → length block ≡ 8 → bits 64 x ≡ to_bits (reverse block) → bits 64 y ≡ select transposed (bits 64 x)
    → z ≡ delta_swap y 0xff00ff00 24 → r ≡ delta_swap z 0xff000000ff00 8 → bits 32 r ++ bits 32 (r / 2 ^ 32) ≡ select IP (to_bits block)
initial_word block x y z r h p q v w =
    let e : Agree (bit_at r) (near (far (bit_at y))) =
    rw (w, v) (swapped _ 0xff000000ff00 8 _ (lit< tt) (swapped y 0xff00ff00 24 (bit_at y) (lit< tt) (λ j l. refl))) in
    ap₂ ◌++◌ (bits_down 32 r ∙ down_ext 32 _ _ (λ j l. e j (omega arith))) (bits_shr 32 32 r ∙ down_ext 32 _ _ (λ j l. e (32 + j) (omega arith)))
    ∙ initial_bits (bit_at y)
    ∙ ap (select IP) (sym (loaded block x y h p q))

last_bits : (g : ℕ → Bool) → select mirrored (select transposed (down 64 (far (near g))))
    ≡ select IP⁻¹ (down 32 g ++ down 32 (λ j. g (32 + j)))
unfolding bit_at bool down select transposed mirrored tab IP⁻¹
last_bits g = refl

pub last_word : (l r l1 r1 x y z w : ℕ) (b : List ℕ) → bits 32 l1 ≡ left_shift 31 (bits 32 l) → bits 32 r1 ≡ left_shift 31 (bits 32 r) → r1 < 2 ^ 32
    → x ≡ l1 * 2 ^ 32 + r1 → y ≡ delta_swap x 0xff000000ff00 8 → z ≡ delta_swap y 0xff00ff00 24 → bits 64 w ≡ select transposed (bits 64 z)
    → b ≡ reverse (to_bytes 8 (bits 64 w)) → b ≡ to_bytes 8 (select IP⁻¹ (held r ++ held l))
unfolding held
last_word l r l1 r1 x y z w b p q h u v e t o =
    let g : Agree (bit_at z) (far (near (bit_at x))) =
    rw (e, v) (swapped _ 0xff00ff00 24 _ (lit< tt) (swapped x 0xff000000ff00 8 (bit_at x) (lit< tt) (λ j k. refl))) in
    let lo : down 32 (bit_at x) ≡ left_shift 31 (bits 32 r) =
    sym (bits_down 32 x) ∙ sym (bits_mod 32 32 x (le_refl 32)) ∙ ap (bits 32) (ap (λ (n : ℕ). n % 2 ^ 32) u ∙ low l1 32 h) ∙ q in
    let hi : down 32 (λ j. bit_at x (32 + j)) ≡ left_shift 31 (bits 32 l) =
    sym (bits_shr 32 32 x) ∙ ap (bits 32) (ap (λ (n : ℕ). n / 2 ^ 32) u ∙ high l1 32 h) ∙ p in
    o
    ∙ ap (λ (i : List Bool). reverse (to_bytes 8 i)) (bits_down 64 w)
    ∙ mirror_back (bit_at w)
    ∙ ap (λ (i : List Bool). to_bytes 8 (select mirrored i)) (sym (bits_down 64 w) ∙ t ∙ ap (select transposed) (bits_down 64 z ∙ down_ext 64 _ _ g))
    ∙ ap (to_bytes 8) (last_bits (bit_at x) ∙ ap₂ (λ (a c : List Bool). select IP⁻¹ (a ++ c)) lo hi)

-- ---- bytes of a word

byte_on : (n x y : ℕ) (l : List Bool) → y < 2 ^ n → bits n y ≡ l → bits (8 + n) (x * 2 ^ n + y) ≡ bits 8 x ++ l
byte_on n x y l h k = bits_join 8 n x y h ∙ ap (λ (t : List Bool). bits 8 x ++ t) k

pub load_word : (b : List ℕ) (x : ℕ) → length b ≡ 8 → Bytes b → x ≡ from_le_bytes w64 b → bits 64 x ≡ to_bits (reverse b)
load_word b x h k e =
    ap (bits 64) (e ∙ omega arith)
    ∙ byte_on 56 (at 7) _ _ (omega arith)
    (byte_on 48 (at 6) _ _ (omega arith)
    (byte_on 40 (at 5) _ _ (omega arith)
    (byte_on 32 (at 4) _ _ (omega arith)
    (byte_on 24 (at 3) _ _ (omega arith)
    (byte_on 16 (at 2) _ _ (omega arith) (byte_on 8 (at 1) _ _ (k 0) (sym (append-nil (bits 8 (at 0))))))))))
    ∙ load_bits at
    ∙ ap (λ (l : List ℕ). to_bits (reverse l)) (sym (listed 8 b h))
  where
    at : ℕ → ℕ
    at i = get_or b i 0

    load_bits : (g : ℕ → ℕ)
        → bits 8 (g 7) ++ (bits 8 (g 6) ++ (bits 8 (g 5) ++ (bits 8 (g 4) ++ (bits 8 (g 3) ++ (bits 8 (g 2) ++ (bits 8 (g 1) ++ (bits 8 (g 0) ++ [])))))))
        ≡ to_bits (reverse (tab 8 g))
    load_bits g = unfold to_bits tab in refl

byte_off : (n k x : ℕ) (l : List ℕ) → to_bytes n (bits k x) ≡ l → to_bytes (suc n) (bits (8 + k) x) ≡ x / 2 ^ k % 256 ∷ l
unfolding to_bytes
byte_off n k x l e =
    ap (to_bytes (suc n)) (bits_split 8 k x)
    ∙ ap₂ ◌∷◌ (ap num (take_at (bits 8 (x / 2 ^ k)) (bits k x) 8 (length_bits 8 _)) ∙ num_low 8 (x / 2 ^ k))
    (ap (to_bytes n) (drop_at (bits 8 (x / 2 ^ k)) (bits k x) 8 (length_bits 8 _)) ∙ e)

pub store_word : (x : ℕ) → to_le_bytes w64 x ≡ reverse (to_bytes 8 (bits 64 x))
store_word x =
    sym
    (ap reverse
    (byte_off 7 56 x _
    (byte_off 6 48 x _ (byte_off 5 40 x _ (byte_off 4 32 x _ (byte_off 3 24 x _ (byte_off 2 16 x _ (byte_off 1 8 x _ (byte_off 0 0 x [] none))))))))
    ∙ ap
    (λ (a : ℕ). a % 256 ∷ x / 2 ^ 8 % 256 ∷ x / 2 ^ 16 % 256 ∷ x / 2 ^ 24 % 256 ∷ x / 2 ^ 32 % 256 ∷ x / 2 ^ 40 % 256 ∷ x / 2 ^ 48 % 256 ∷ x / 2 ^ 56 % 256 ∷ [])
    (div-one x))
  where
    none : to_bytes 0 (bits 0 x) ≡ []
    none = unfold to_bytes in refl
