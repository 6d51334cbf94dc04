-- The bytes of words of 32 bits, highest first, and lists of them. Assumes nothing.
use mathlib.Core.Path.{◌≡◌, refl, sym, ap, ap₂, ◌∙◌}
use mathlib.Core.List.{List, [], ◌∷◌, ◌++◌, map}
use Prim.Native.Nat.{ℕ, zero, suc, ◌+◌, ◌*◌, ◌/◌, ◌%◌, ◌^◌, ◌≤◌, ◌<◌}
use native.Mathlib.Nat.{mod-lt}
use native.Mathlib.Omega.{arith}
use lib.Dec.{lit<}
use lib.ListN.{length, take, drop, get_or}
use lib.Seq.{drop-cons}
use lib.Pow.{shr-shr}
use lib.Bits.{bit_xor, bit_or, xor_shr, xor_mod, or_shifted, or_shifted_r}
use Rattle.std.specs.Int.{w32, from_be_bytes, rotate_left, rotate_right}
use Rattle.cipher.specs.Bytes.{Bytes, ◌⊕◌, word_bytes, words_bytes}
use Rattle.cipher.specs.Fips197.{rot_word}
use Rattle.cipher.specs.inner.AesTables.{rot_right}

infixr 60 ◌◂◌
pub ◌◂◌ : {a b : ℕ} {s t : List ℕ} → a ≡ b → s ≡ t → a ∷ s ≡ b ∷ t
◌◂◌ p q = ap₂ ◌∷◌ p q

-- ---- lists of bytes

-- a function on bytes that another undoes
pub map_undone : (f g : ℕ → ℕ) → ((x : ℕ) → x < 256 → g (f x) ≡ x) → (s : List ℕ) → Bytes s → map g (map f s) ≡ s
map_undone f g e [] h = refl
map_undone f g e (x ∷ s) h = e x (h 0) ◂ map_undone f g e s (λ j. h (suc j))

-- ---- one word

pub word_xor : (x y : ℕ) → word_bytes (bit_xor x y) ≡ word_bytes x ⊕ word_bytes y
unfolding word_bytes ◌⊕◌
word_xor x y =
    (ap (λ (z : ℕ). z % 256) (xor_shr x y 24) ∙ xor_mod (x / 16777216) (y / 16777216) 8)
    ◂ (ap (λ (z : ℕ). z % 256) (xor_shr x y 16) ∙ xor_mod (x / 65536) (y / 65536) 8)
    ◂ (ap (λ (z : ℕ). z % 256) (xor_shr x y 8) ∙ xor_mod (x / 256) (y / 256) 8) ◂ xor_mod x y 8 ◂ refl

pub low : (x : ℕ) → x % 256 < 256
low x = mod-lt x (lit< tt)

pub word_join : (p q r s : ℕ) → p < 256 → q < 256 → r < 256 → s < 256
    → word_bytes (p * 16777216 + q * 65536 + r * 256 + s) ≡ p ∷ q ∷ r ∷ s ∷ []
unfolding word_bytes
word_join p q r s hp hq hr hs = omega arith ◂ omega arith ◂ omega arith ◂ omega arith ◂ refl

-- std's rotations by 8 bits
pub word_right : (x : ℕ) → x < 2 ^ 32 → word_bytes (rotate_right w32 x 8) ≡ rot_right (word_bytes x)
unfolding word_bytes rot_right
word_right x h =
    let m : x * 2 ^ 24 % 2 ^ 32 ≡ x % 256 * 2 ^ 24 = omega arith in
    let e : x % 256 * 2 ^ 24 + x / 256 ≡ x % 256 * 16777216 + x / 16777216 % 256 * 65536 + x / 65536 % 256 * 256 + x / 256 % 256 = omega arith in
    ap word_bytes (ap (bit_or (x / 256)) m ∙ or_shifted_r (x % 256) 24 (x / 256) (omega arith) ∙ e)
    ∙ word_join (x % 256) (x / 16777216 % 256) (x / 65536 % 256) (x / 256 % 256) (low x) (low (x / 16777216)) (low (x / 65536)) (low (x / 256))

pub word_left : (x : ℕ) → x < 2 ^ 32 → word_bytes (rotate_left w32 x 8) ≡ rot_word (word_bytes x)
unfolding word_bytes rot_word
word_left x h =
    let b : x / 65536 / 256 ≡ x / 16777216 = shr-shr x 16 8 in
    let d : x / 256 / 256 ≡ x / 65536 = shr-shr x 8 8 in
    let m : x * 2 ^ 8 % 2 ^ 32 ≡ x % 16777216 * 2 ^ 8 = omega arith in
    let e : x % 16777216 * 2 ^ 8 + x / 16777216 ≡ x / 65536 % 256 * 16777216 + x / 256 % 256 * 65536 + x % 256 * 256 + x / 16777216 % 256 = omega arith in
    ap word_bytes (ap (λ (y : ℕ). bit_or y (x / 16777216)) m ∙ or_shifted (x % 16777216) 8 (x / 16777216) (omega arith) ∙ e)
    ∙ word_join (x / 65536 % 256) (x / 256 % 256) (x % 256) (x / 16777216 % 256) (low (x / 65536)) (low (x / 256)) (low x) (low (x / 16777216))

-- a word turned, with another added
pub turned : (x y r : ℕ) {t : List ℕ} → word_bytes y ≡ t → y < 2 ^ 32 → r ≡ rotate_right w32 y 8 → word_bytes (bit_xor x r) ≡ word_bytes x ⊕ rot_right t
turned x y r e h f = word_xor x r ∙ ap (λ (l : List ℕ). word_bytes x ⊕ l) (ap word_bytes f ∙ word_right y h ∙ ap rot_right e)

-- a word made of four bytes has them
pub word_from : (p q r s x : ℕ) → p < 256 → q < 256 → r < 256 → s < 256 → x ≡ from_be_bytes w32 (p ∷ q ∷ r ∷ s ∷ []) → word_bytes x ≡ p ∷ q ∷ r ∷ s ∷ []
word_from p q r s x hp hq hr hs e = ap word_bytes e ∙ word_join p q r s hp hq hr hs

-- ---- lists of words

pub words_append : (a b : List ℕ) → words_bytes (a ++ b) ≡ words_bytes a ++ words_bytes b
unfolding words_bytes word_bytes
words_append [] b = refl
words_append (x ∷ a) b = rw (words_append a b)

pub words_length : (ws : List ℕ) → length (words_bytes ws) ≡ 4 * length ws
unfolding words_bytes word_bytes
words_length [] = refl
words_length (x ∷ ws) = omega (arith, words_length ws)

pub words_drop : (m : ℕ) (ws : List ℕ) → drop (4 * m) (words_bytes ws) ≡ words_bytes (drop m ws)
unfolding words_bytes word_bytes
words_drop zero ws = refl
words_drop (suc m) [] = let e : 4 * suc m ≡ suc (suc (suc (suc (4 * m)))) = omega arith in rw e
words_drop (suc m) (x ∷ ws) = let e : 4 * suc m ≡ suc (suc (suc (suc (4 * m)))) = omega arith in rw e (words_drop m ws)

next : (ws : List ℕ) (j k : ℕ) → k ≡ suc j → j < length ws → drop j ws ≡ get_or ws j 0 ∷ drop k ws
next ws j k e h = drop-cons ws j 0 h ∙ ap (λ (n : ℕ). get_or ws j 0 ∷ drop n ws) (sym e)

-- four words from the middle
pub words_four : (m : ℕ) (ws : List ℕ) → m + 4 ≤ length ws
    → take 16 (drop (4 * m) (words_bytes ws)) ≡ words_bytes (get_or ws m 0 ∷ get_or ws (m + 1) 0 ∷ get_or ws (m + 2) 0 ∷ get_or ws (m + 3) 0 ∷ [])
unfolding words_bytes word_bytes
words_four m ws h =
    ap (take 16) (words_drop m ws
    ∙ ap words_bytes (next ws m (m + 1) (omega arith) (omega arith)
    ∙ ap (λ (s : List ℕ). get_or ws m 0 ∷ s) (next ws (m + 1) (m + 2) (omega arith) (omega arith)
    ∙ ap (λ (s : List ℕ). get_or ws (m + 1) 0 ∷ s) (next ws (m + 2) (m + 3) (omega arith) (omega arith)
    ∙ ap (λ (s : List ℕ). get_or ws (m + 2) 0 ∷ s) (next ws (m + 3) (m + 4) (omega arith) (omega arith))))))

-- the words' bytes, one word after the other
pub words_of : {p q r s : List ℕ} (a b c d : ℕ) → word_bytes a ≡ p → word_bytes b ≡ q → word_bytes c ≡ r → word_bytes d ≡ s
    → words_bytes (a ∷ b ∷ c ∷ d ∷ []) ≡ p ++ (q ++ (r ++ (s ++ [])))
unfolding words_bytes
words_of a b c d hp hq hr hs = ap₂ ◌++◌ hp (ap₂ ◌++◌ hq (ap₂ ◌++◌ hr (ap (λ (l : List ℕ). l ++ []) hs)))

pub words_xor : (xs ys : List ℕ) → words_bytes (xs ⊕ ys) ≡ words_bytes xs ⊕ words_bytes ys
unfolding words_bytes word_bytes ◌⊕◌
words_xor [] ys = refl
words_xor (x ∷ xs) [] = refl
words_xor (x ∷ xs) (y ∷ ys) = ap₂ ◌++◌ (word_xor x y) (words_xor xs ys)
