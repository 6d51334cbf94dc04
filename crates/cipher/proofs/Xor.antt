-- The laws of exclusive or, on numbers and on byte strings of any length. Assumes nothing.
use mathlib.Core.Path.{◌≡◌, refl, sym, ap, ap₂, ◌∙◌}
use mathlib.Core.List.{List, [], ◌∷◌}
use Prim.Native.Nat.{ℕ, zero, suc, ◌+◌, ◌*◌, ◌/◌, ◌%◌, ◌≤◌, ◌<◌, min, zero-le, suc-le-suc}
use native.Mathlib.Nat.{le_of_suc-le-suc, not-suc-le-zero, mod-lt, zero-min, min-zero, suc-min-suc}
use native.Mathlib.Omega.{arith}
use lib.Arith.{bin_ind, digits_div, digits_mod}
use lib.ListN.{length, take, get_or, replicate}
use lib.Dec.{lit<}
use lib.Bits.{bit_xor, differ, xor_step, xor_comm, xor_self, xor_zero_r, xor_lt}
use Rattle.cipher.specs.Bytes.{Bytes, ◌⊕◌, complement}

-- ---- numbers

differ_lt : (x y : ℕ) → x < 2 → y < 2 → differ x y < 2
differ_lt zero y h k = k
differ_lt (suc x) zero h k = h
differ_lt (suc x) (suc y) h k = differ_lt x y (omega arith) (omega arith)

differ_assoc : (x y z : ℕ) → x < 2 → y < 2 → z < 2 → differ (differ x y) z ≡ differ x (differ y z)
differ_assoc zero y z h k l = refl
differ_assoc (suc zero) zero z h k l = refl
differ_assoc (suc zero) (suc zero) zero h k l = refl
differ_assoc (suc zero) (suc zero) (suc zero) h k l = refl
differ_assoc (suc zero) (suc zero) (suc (suc z)) h k l = absurd (omega arith)
differ_assoc (suc zero) (suc (suc y)) z h k l = absurd (omega arith)
differ_assoc (suc (suc x)) y z h k l = absurd (omega arith)

two_pos : 0 < 2
two_pos = lit< tt

xor_odds : (a b : ℕ) → differ (a % 2) (b % 2) < 2
xor_odds a b = differ_lt (a % 2) (b % 2) (mod-lt a two_pos) (mod-lt b two_pos)

pub xor_half : (a b : ℕ) → bit_xor a b / 2 ≡ bit_xor (a / 2) (b / 2)
xor_half a b = ap (λ (x : ℕ). x / 2) (xor_step a b) ∙ digits_div (bit_xor (a / 2) (b / 2)) (xor_odds a b)

pub xor_odd : (a b : ℕ) → bit_xor a b % 2 ≡ differ (a % 2) (b % 2)
xor_odd a b = ap (λ (x : ℕ). x % 2) (xor_step a b) ∙ digits_mod (bit_xor (a / 2) (b / 2)) (xor_odds a b)

pub xor_assoc : (a b c : ℕ) → bit_xor (bit_xor a b) c ≡ bit_xor a (bit_xor b c)
xor_assoc a =
    bin_ind (λ (n : ℕ). (b c : ℕ) → bit_xor (bit_xor n b) c ≡ bit_xor n (bit_xor b c)) (λ b c. refl)
    (λ n ih b c.
    xor_step (bit_xor n b) c
    ∙ ap₂ (λ (x y : ℕ). bit_xor x (c / 2) * 2 + differ y (c % 2)) (xor_half n b) (xor_odd n b)
    ∙ ap₂ (λ (x y : ℕ). x * 2 + y) (ih (b / 2) (c / 2)) (differ_assoc (n % 2) (b % 2) (c % 2) (mod-lt n two_pos) (mod-lt b two_pos) (mod-lt c two_pos))
    ∙ sym (ap₂ (λ (x y : ℕ). bit_xor (n / 2) x * 2 + differ (n % 2) y) (xor_half b c) (xor_odd b c))
    ∙ sym (xor_step n (bit_xor b c)))
    a

pub xor_twice : (a b : ℕ) → bit_xor (bit_xor a b) b ≡ a
xor_twice a b = xor_assoc a b b ∙ ap (bit_xor a) (xor_self b) ∙ xor_zero_r a

pub xor_byte : (a b : ℕ) → a < 256 → b < 256 → bit_xor a b < 256
xor_byte a b h k = xor_lt 8 a b h k

-- ---- byte strings

pub length-⊕ : (s t : List ℕ) → length s ≤ length t → length (s ⊕ t) ≡ length s
unfolding ◌⊕◌
length-⊕ [] t h = refl
length-⊕ (x ∷ s) [] h = absurd (not-suc-le-zero h)
length-⊕ (x ∷ s) (y ∷ t) h = ap suc (length-⊕ s t (le_of_suc-le-suc h))

-- two strings of one length
pub length_xor : (n : ℕ) (s t : List ℕ) → length s ≡ n → length t ≡ n → length (s ⊕ t) ≡ n
length_xor n s t h k = length-⊕ s t (omega arith) ∙ h

pub length-⊕-r : (s t : List ℕ) → length t ≤ length s → length (s ⊕ t) ≡ length t
unfolding ◌⊕◌
length-⊕-r [] [] h = refl
length-⊕-r [] (y ∷ t) h = absurd (not-suc-le-zero h)
length-⊕-r (x ∷ s) [] h = refl
length-⊕-r (x ∷ s) (y ∷ t) h = ap suc (length-⊕-r s t (le_of_suc-le-suc h))

-- a place of the sum is one of both
pub length-⊕-shorter : (s t : List ℕ) (i : ℕ) → i < length (s ⊕ t) → (i < length s) × (i < length t)
unfolding ◌⊕◌
length-⊕-shorter [] t i h = absurd (not-suc-le-zero h)
length-⊕-shorter (x ∷ s) [] i h = absurd (not-suc-le-zero h)
length-⊕-shorter (x ∷ s) (y ∷ t) zero h = (suc-le-suc zero-le, suc-le-suc zero-le)
length-⊕-shorter (x ∷ s) (y ∷ t) (suc i) h =
    let r = length-⊕-shorter s t i (le_of_suc-le-suc h) in
    (suc-le-suc r.0, suc-le-suc r.1)

-- the sum is as long as the shorter
pub length-⊕-min : (s t : List ℕ) → length (s ⊕ t) ≡ min (length s) (length t)
unfolding ◌⊕◌
length-⊕-min [] t = sym (zero-min (length t))
length-⊕-min (x ∷ s) [] = sym (min-zero (length (x ∷ s)))
length-⊕-min (x ∷ s) (y ∷ t) = ap suc (length-⊕-min s t) ∙ sym (suc-min-suc (length s) (length t))

pub ⊕-comm : (s t : List ℕ) → s ⊕ t ≡ t ⊕ s
unfolding ◌⊕◌
⊕-comm [] [] = refl
⊕-comm [] (y ∷ t) = refl
⊕-comm (x ∷ s) [] = refl
⊕-comm (x ∷ s) (y ∷ t) = ap₂ ◌∷◌ (xor_comm x y) (⊕-comm s t)

pub ⊕-assoc : (s t u : List ℕ) → (s ⊕ t) ⊕ u ≡ s ⊕ (t ⊕ u)
unfolding ◌⊕◌
⊕-assoc [] t u = refl
⊕-assoc (x ∷ s) [] u = refl
⊕-assoc (x ∷ s) (y ∷ t) [] = refl
⊕-assoc (x ∷ s) (y ∷ t) (z ∷ u) = ap₂ ◌∷◌ (xor_assoc x y z) (⊕-assoc s t u)

-- the same string twice leaves the first as it was
pub ⊕-twice : (s t : List ℕ) → length s ≤ length t → (s ⊕ t) ⊕ t ≡ s
unfolding ◌⊕◌
⊕-twice [] t h = refl
⊕-twice (x ∷ s) [] h = absurd (not-suc-le-zero h)
⊕-twice (x ∷ s) (y ∷ t) h = ap₂ ◌∷◌ (xor_twice x y) (⊕-twice s t (le_of_suc-le-suc h))

-- what the shorter second string does not reach plays no part
pub ⊕-take : (s t : List ℕ) → s ⊕ t ≡ take (length t) s ⊕ t
unfolding ◌⊕◌
⊕-take [] [] = refl
⊕-take [] (y ∷ t) = refl
⊕-take (x ∷ s) [] = refl
⊕-take (x ∷ s) (y ∷ t) = ap (λ (l : List ℕ). bit_xor x y ∷ l) (⊕-take s t)

pub get_or-⊕ : (s t : List ℕ) (i : ℕ) → i < length s → i < length t → get_or (s ⊕ t) i 0 ≡ bit_xor (get_or s i 0) (get_or t i 0)
unfolding ◌⊕◌
get_or-⊕ [] t i h k = absurd (not-suc-le-zero h)
get_or-⊕ (x ∷ s) [] i h k = absurd (not-suc-le-zero k)
get_or-⊕ (x ∷ s) (y ∷ t) zero h k = refl
get_or-⊕ (x ∷ s) (y ∷ t) (suc i) h k = get_or-⊕ s t i (le_of_suc-le-suc h) (le_of_suc-le-suc k)

pub zeros-⊕ : (s : List ℕ) (n : ℕ) → length s ≤ n → replicate n 0 ⊕ s ≡ s
unfolding ◌⊕◌
zeros-⊕ [] zero h = refl
zeros-⊕ [] (suc n) h = refl
zeros-⊕ (x ∷ s) zero h = absurd (not-suc-le-zero h)
zeros-⊕ (x ∷ s) (suc n) h = ap (λ (t : List ℕ). x ∷ t) (zeros-⊕ s n (le_of_suc-le-suc h))

pub Bytes-⊕ : (s t : List ℕ) → Bytes s → Bytes t → Bytes (s ⊕ t)
unfolding ◌⊕◌
Bytes-⊕ [] t h k i = lit< tt
Bytes-⊕ (x ∷ s) [] h k i = lit< tt
Bytes-⊕ (x ∷ s) (y ∷ t) h k zero = xor_byte x y (h 0) (k 0)
Bytes-⊕ (x ∷ s) (y ∷ t) h k (suc i) = Bytes-⊕ s t (λ j. h (suc j)) (λ j. k (suc j)) i

-- ---- the complement of a string of n bytes

pub complement_is : (n : ℕ) (s : List ℕ) → length s ≡ n → complement s ≡ s ⊕ replicate n 255
unfolding complement
complement_is n s h = ap (λ (k : ℕ). s ⊕ replicate k 255) h
