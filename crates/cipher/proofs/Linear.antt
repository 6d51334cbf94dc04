-- Sums of products by fixed numbers in GF(2^8): an equation between two of them holds if a test of their coefficients passes. A coefficient is a
-- polynomial in {02}, so an equation that needs a reduction by 4.2's m(x) is not found. Assumes nothing.
use mathlib.Core.Path.{◌≡◌, refl, sym, ap, ap₂, ◌∙◌}
use mathlib.Core.Bool.{Bool, true, false}
use mathlib.Core.List.{List, [], ◌∷◌, map}
use Prim.Native.Nat.{ℕ, zero, suc, ◌*◌, ◌/◌, ◌%◌, ◌<◌}
use native.Mathlib.Nat.{add-zero, mod-lt}
use native.Mathlib.Omega.{arith}
use lib.Dec.{T, lit<}
use lib.ListN.{get_or}
use lib.Bits.{bit_xor, xor_comm, xor_self, xor_zero_r, xor_mod, xor_shr, xor_block}
use Rattle.cipher.specs.Fips197.{xtime, if_bit, add_times, ◌•◌}
use Rattle.cipher.proofs.Table.{both, both_left, both_right}
use Rattle.cipher.proofs.Xor.{xor_assoc, xor_twice}

infixl 60 ◌⊞◌
-- ---- `xtime` and exclusive or

interchange : (a b c d : ℕ) → bit_xor (bit_xor a b) (bit_xor c d) ≡ bit_xor (bit_xor a c) (bit_xor b d)
interchange a b c d =
    xor_assoc a b (bit_xor c d) ∙ ap (bit_xor a) (sym (xor_assoc b c d) ∙ ap (λ (x : ℕ). bit_xor x d) (xor_comm b c) ∙ xor_assoc c b d)
    ∙ sym (xor_assoc a c (bit_xor b d))

xor_twofold : (a b : ℕ) → bit_xor a b * 2 ≡ bit_xor (a * 2) (b * 2)
xor_twofold a b =
    sym (add-zero (bit_xor a b * 2)) ∙ sym (xor_block 1 a b 0 0 (lit< tt) (lit< tt)) ∙ ap₂ bit_xor (add-zero (a * 2)) (add-zero (b * 2))

xor_reduced : (p q : ℕ) → p < 2 → q < 2 → bit_xor p q * 0x1b ≡ bit_xor (p * 0x1b) (q * 0x1b)
xor_reduced zero q h k = refl
xor_reduced (suc zero) zero h k = refl
xor_reduced (suc zero) (suc zero) h k = refl
xor_reduced (suc zero) (suc (suc q)) h k = absurd (omega arith)
xor_reduced (suc (suc p)) q h k = absurd (omega arith)

xtime_xor : (a b : ℕ) → xtime (bit_xor a b) ≡ bit_xor (xtime a) (xtime b)
unfolding xtime
xtime_xor a b =
    ap₂ bit_xor (ap (λ (x : ℕ). x % 256) (xor_twofold a b) ∙ xor_mod (a * 2) (b * 2) 8)
    (ap (λ (x : ℕ). x % 2 * 0x1b) (xor_shr a b 7) ∙ ap (λ (x : ℕ). x * 0x1b) (xor_mod (a / 128) (b / 128) 1)
    ∙ xor_reduced (a / 128 % 2) (b / 128 % 2) (mod-lt (a / 128) (lit< tt)) (mod-lt (b / 128) (lit< tt)))
    ∙ interchange (a * 2 % 256) (b * 2 % 256) (a / 128 % 2 * 0x1b) (b / 128 % 2 * 0x1b)

-- ---- sums, and their coefficients

pub data Sum : Type 0 where
  var : ℕ → Sum
  none : Sum
  ◌⊞◌ : Sum → Sum → Sum
  twice : Sum → Sum

-- its value where variable i stands for the i-th number of the list
abbrev pub value : Sum → List ℕ → ℕ
value (var i) ρ = get_or ρ i 0
value none ρ = 0
value (s ⊞ t) ρ = bit_xor (value s ρ) (value t ρ)
value (twice s) ρ = xtime (value s ρ)

-- the product with a, as the definition of `◌•◌` goes
abbrev either : ℕ → Sum → Sum → Sum
either zero set clear = clear
either (suc b) set clear = set

abbrev add_products : ℕ → ℕ → Sum → Sum → Sum
add_products zero a s sum = sum
add_products (suc n) a s sum = add_products n (a / 2) (twice s) (either (a % 2) (sum ⊞ s) sum)

abbrev pub product : ℕ → Sum → Sum
product a s = add_products 8 a s none

either_value : (b : ℕ) (s t : Sum) (ρ : List ℕ) → value (either b s t) ρ ≡ if_bit b (value s ρ) (value t ρ)
unfolding if_bit
either_value zero s t ρ = refl
either_value (suc b) s t ρ = refl

products_value : (n a : ℕ) (s sum : Sum) (ρ : List ℕ) → value (add_products n a s sum) ρ ≡ add_times n a (value s ρ) (value sum ρ)
unfolding add_times
products_value zero a s sum ρ = refl
products_value (suc n) a s sum ρ =
    products_value n (a / 2) (twice s) (either (a % 2) (sum ⊞ s) sum) ρ
    ∙ ap (add_times n (a / 2) (xtime (value s ρ))) (either_value (a % 2) (sum ⊞ s) sum ρ)

pub product_value : (a : ℕ) (s : Sum) (ρ : List ℕ) → value (product a s) ρ ≡ a • value s ρ
unfolding ◌•◌
product_value a s ρ = products_value 8 a s none ρ

-- a polynomial in {02}, the lowest power first, times x
pick : Bool → ℕ → ℕ
pick false x = 0
pick true x = x

times : List Bool → ℕ → ℕ
times [] x = 0
times (b ∷ p) x = bit_xor (pick b x) (xtime (times p x))

-- a polynomial for each variable
total : List (List Bool) → List ℕ → ℕ
total [] ρ = 0
total (p ∷ ps) [] = 0
total (p ∷ ps) (x ∷ ρ) = bit_xor (times p x) (total ps ρ)

abbrev exor : Bool → Bool → Bool
exor false b = b
exor true false = true
exor true true = false

abbrev add : List Bool → List Bool → List Bool
add [] q = q
add (b ∷ p) [] = b ∷ p
add (b ∷ p) (c ∷ q) = exor b c ∷ add p q

abbrev add_all : List (List Bool) → List (List Bool) → List (List Bool)
add_all [] qs = qs
add_all (p ∷ ps) [] = p ∷ ps
add_all (p ∷ ps) (q ∷ qs) = add p q ∷ add_all ps qs

abbrev unit : ℕ → List (List Bool)
unit zero = (true ∷ []) ∷ []
unit (suc i) = [] ∷ unit i

abbrev coefficients : Sum → List (List Bool)
coefficients (var i) = unit i
coefficients none = []
coefficients (s ⊞ t) = add_all (coefficients s) (coefficients t)
coefficients (twice s) = map (λ (p : List Bool). false ∷ p) (coefficients s)

exor_pick : (b c : Bool) (x : ℕ) → pick (exor b c) x ≡ bit_xor (pick b x) (pick c x)
unfolding pick
exor_pick false c x = refl
exor_pick true false x = sym (xor_zero_r x)
exor_pick true true x = sym (xor_self x)

add_times_lem : (p q : List Bool) (x : ℕ) → times (add p q) x ≡ bit_xor (times p x) (times q x)
unfolding times
add_times_lem [] q x = refl
add_times_lem (b ∷ p) [] x = sym (xor_zero_r (times (b ∷ p) x))
add_times_lem (b ∷ p) (c ∷ q) x =
    ap₂ bit_xor (exor_pick b c x) (ap xtime (add_times_lem p q x) ∙ xtime_xor (times p x) (times q x))
    ∙ interchange (pick b x) (pick c x) (xtime (times p x)) (xtime (times q x))

add_total : (ps qs : List (List Bool)) (ρ : List ℕ) → total (add_all ps qs) ρ ≡ bit_xor (total ps ρ) (total qs ρ)
unfolding total
add_total [] qs ρ = refl
add_total (p ∷ ps) [] ρ = sym (xor_zero_r (total (p ∷ ps) ρ))
add_total (p ∷ ps) (q ∷ qs) [] = refl
add_total (p ∷ ps) (q ∷ qs) (x ∷ ρ) =
    ap₂ bit_xor (add_times_lem p q x) (add_total ps qs ρ) ∙ interchange (times p x) (times q x) (total ps ρ) (total qs ρ)

unit_total : (i : ℕ) (ρ : List ℕ) → total (unit i) ρ ≡ get_or ρ i 0
unfolding total times pick xtime
unit_total zero [] = refl
unit_total zero (x ∷ ρ) = xor_zero_r (bit_xor x 0) ∙ xor_zero_r x
unit_total (suc i) [] = refl
unit_total (suc i) (x ∷ ρ) = unit_total i ρ

twice_total : (ps : List (List Bool)) (ρ : List ℕ) → total (map (λ (p : List Bool). false ∷ p) ps) ρ ≡ xtime (total ps ρ)
unfolding total times pick xtime
twice_total [] ρ = refl
twice_total (p ∷ ps) [] = refl
twice_total (p ∷ ps) (x ∷ ρ) = ap (bit_xor (xtime (times p x))) (twice_total ps ρ) ∙ sym (xtime_xor (times p x) (total ps ρ))

coefficients_total : (s : Sum) (ρ : List ℕ) → total (coefficients s) ρ ≡ value s ρ
unfolding total
coefficients_total (var i) ρ = unit_total i ρ
coefficients_total none ρ = refl
coefficients_total (s ⊞ t) ρ =
    add_total (coefficients s) (coefficients t) ρ ∙ ap₂ bit_xor (coefficients_total s ρ) (coefficients_total t ρ)
coefficients_total (twice s) ρ = twice_total (coefficients s) ρ ∙ ap xtime (coefficients_total s ρ)

-- ---- the test

abbrev vanishes : List Bool → Bool
vanishes [] = true
vanishes (true ∷ p) = false
vanishes (false ∷ p) = vanishes p

abbrev all_vanish : List (List Bool) → Bool
all_vanish [] = true
all_vanish (p ∷ ps) = both (vanishes p) (all_vanish ps)

abbrev pub same : Sum → Sum → Bool
same s t = all_vanish (add_all (coefficients s) (coefficients t))

vanishes_times : (p : List Bool) (x : ℕ) → T (vanishes p) → times p x ≡ 0
unfolding times pick xtime
vanishes_times [] x h = refl
vanishes_times (true ∷ p) x h = absurd h
vanishes_times (false ∷ p) x h = ap xtime (vanishes_times p x h)

vanish_total : (ps : List (List Bool)) (ρ : List ℕ) → T (all_vanish ps) → total ps ρ ≡ 0
unfolding total
vanish_total [] ρ h = refl
vanish_total (p ∷ ps) [] h = refl
vanish_total (p ∷ ps) (x ∷ ρ) h =
    ap₂ bit_xor (vanishes_times p x (both_left (vanishes p) (all_vanish ps) h)) (vanish_total ps ρ (both_right (vanishes p) (all_vanish ps) h))

pub equal : (s t : Sum) → T (same s t) → (ρ : List ℕ) → value s ρ ≡ value t ρ
equal s t h ρ =
    let e : bit_xor (value s ρ) (value t ρ) ≡ 0 =
    sym (ap₂ bit_xor (coefficients_total s ρ) (coefficients_total t ρ)) ∙ sym (add_total (coefficients s) (coefficients t) ρ)
    ∙ vanish_total (add_all (coefficients s) (coefficients t)) ρ h in
    sym (xor_twice (value s ρ) (value t ρ)) ∙ ap (λ (x : ℕ). bit_xor x (value t ρ)) e
