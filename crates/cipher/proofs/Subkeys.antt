-- The next subkey of CMAC (`double` of specs/Sp80038b), made by arithmetic on a number of 128 bits. Assumes nothing.
use mathlib.Core.Path.{◌≡◌, refl, sym, ap, ap₂, ◌∙◌}
use mathlib.Core.List.{List, [], ◌∷◌}
use Prim.Native.Nat.{ℕ, zero, suc, ◌+◌, ◌-◌, ◌*◌, ◌/◌, ◌%◌, ◌^◌, ◌≤◌, ◌<◌}
use native.Mathlib.Nat.{pow-suc, div-one, div-div-eq-div-mul, div-eq_of_lt, lt_of_lt_of_le}
use native.Mathlib.Omega.{arith}
use lib.Arith.{digits_div, digits_mod}
use lib.ListN.{length}
use lib.Pow.{field, mod-mod-pow, shr-shr, shl-shr, shr_lt, pow_mono}
use lib.Bits.{bit_xor, xor_shr, xor_mod}
use Rattle.std.specs.Int.{w128, byte_at, bytes_high_first, to_be_bytes, from_be_bytes}
use Rattle.cipher.specs.Bytes.{Bytes, tab, ◌⊕◌}
use Rattle.cipher.specs.Sp80038b.{shift_left, double, R128}
use Rattle.cipher.proofs.Tabulation.{listed}
use Rattle.cipher.proofs.Words.{◌◂◌}

-- ---- a number and its bytes

-- the number whose bytes are those of a and then s
value : ℕ → List ℕ → ℕ
value a [] = a
value a (x ∷ s) = value (a * 256 + x) s

value_high : (a : ℕ) (s : List ℕ) → Bytes s → value a s / 256 ^ length s ≡ a
unfolding value
value_high a [] h = div-one a
value_high a (x ∷ s) h =
    let b : ℕ = a * 256 + x in
    rw pow-suc (sym (div-div-eq-div-mul (value b s) (256 ^ length s) 256) ∙ ap (λ (n : ℕ). n / 256) (value_high b s (λ j. h (suc j))) ∙ digits_div a (h 0))

byte_at_lem : (j n : ℕ) → byte_at j n ≡ n / 256 ^ j % 256
byte_at_lem zero n = ap (λ (m : ℕ). m % 256) (sym (div-one n))
byte_at_lem (suc j) n = refl

value_bytes : (a : ℕ) (s : List ℕ) → Bytes s → bytes_high_first (length s) (value a s) ≡ s
unfolding value
value_bytes a [] h = refl
value_bytes a (x ∷ s) h =
    let b : ℕ = a * 256 + x in
    let t : Bytes s = λ j. h (suc j) in
    (byte_at_lem (length s) (value b s) ∙ ap (λ (n : ℕ). n % 256) (value_high b s t) ∙ digits_mod a (h 0)) ◂ value_bytes b s t

from_be_bytes_lem : (x : List ℕ) → length x ≡ 16 → from_be_bytes w128 x ≡ value 0 x
unfolding value tab
from_be_bytes_lem x l = rw (listed 16 x l) (omega arith)

pub be_bytes_16 : (x : List ℕ) (n : ℕ) → length x ≡ 16 → Bytes x → n ≡ from_be_bytes w128 x → to_be_bytes w128 n ≡ x
be_bytes_16 x n l b e =
    ap (bytes_high_first 16) (e ∙ from_be_bytes_lem x l) ∙ ap (λ (k : ℕ). bytes_high_first k (value 0 x)) (sym l) ∙ value_bytes 0 x b

-- ---- one bit to the left, with R128 where the highest bit is set

module _ (n : ℕ) (h : n < 2 ^ 128) where
  next : ℕ
  next = bit_xor (n * 2 % 2 ^ 128) (n / 2 ^ 127 * 135)

  carry_byte : n / 2 ^ 127 * 135 < 256
  carry_byte = let c : n / 2 ^ 127 < 2 = shr_lt 1 127 h in omega arith

  -- the byte at j + 8, by that and the one below it
  upper : (j : ℕ) → j ≤ 112 → next / 2 ^ (j + 8) % 256 ≡ bit_xor (n / 2 ^ (j + 8) % 256 * 2 % 256 + n / 2 ^ j % 256 / 128) 0
  unfolding next
  upper j l =
      let a : ℕ = n * 2 % 2 ^ 128 in
      let b : ℕ = n / 2 ^ 127 * 135 in
      let q : ℕ = n / 2 ^ j in
      let k : 128 ≡ ((112 - j) + 8) + (j + 8) = omega arith in
      let low : b / 2 ^ (j + 8) ≡ 0 = div-eq_of_lt (lt_of_lt_of_le carry_byte (pow_mono {i = 8} (omega arith))) in
      let cut : a / 2 ^ (j + 8) % 256 ≡ n * 2 / 2 ^ (j + 8) % 256 =
      ap (λ (i : ℕ). n * 2 % 2 ^ i / 2 ^ (j + 8) % 256) k ∙ ap (λ (i : ℕ). i % 256) (field (n * 2) ((112 - j) + 8) (j + 8)) ∙ mod-mod-pow (n * 2 / 2 ^ (j + 8)) (112 - j) 8 in
      let o : j + 8 ≡ 1 + (j + 7) = omega arith in
      let shift : n * 2 / 2 ^ (j + 8) ≡ q / 128 =
      ap (λ (i : ℕ). n * 2 / 2 ^ i) o ∙ sym (shr-shr (n * 2) 1 (j + 7)) ∙ ap (λ (i : ℕ). i / 2 ^ (j + 7)) (shl-shr n 1) ∙ sym (shr-shr n j 7) in
      let above : q / 256 ≡ n / 2 ^ (j + 8) = shr-shr n j 8 in
      let bits : q / 128 % 256 ≡ q / 256 % 256 * 2 % 256 + q % 256 / 128 = omega arith in
      ap (λ (i : ℕ). i % 256) (xor_shr a b (j + 8)) ∙ xor_mod (a / 2 ^ (j + 8)) (b / 2 ^ (j + 8)) 8
      ∙ ap₂ bit_xor (cut ∙ ap (λ (i : ℕ). i % 256) shift ∙ bits ∙ ap (λ (i : ℕ). i % 256 * 2 % 256 + q % 256 / 128) above) (ap (λ (i : ℕ). i % 256) low)

  lowest : next % 256 ≡ bit_xor (n % 256 * 2 % 256 + 0) (n / 2 ^ 120 % 256 / 128 * 135)
  unfolding next
  lowest =
      let q : ℕ = n / 2 ^ 120 in
      let small : q < 256 = shr_lt 8 120 h in
      let top : n / 2 ^ 127 ≡ q / 128 = sym (shr-shr n 120 7) in
      let carry : n / 2 ^ 127 * 135 % 256 ≡ q % 256 / 128 * 135 = rw top (omega arith) in
      xor_mod (n * 2 % 2 ^ 128) (n / 2 ^ 127 * 135) 8 ∙ ap₂ bit_xor (omega arith) carry

  pub next_subkey : to_be_bytes w128 (bit_xor (n * 2 % 2 ^ 128) (n / 2 ^ 127 * 135)) ≡ double 16 R128 (to_be_bytes w128 n)
  unfolding next double shift_left tab ◌⊕◌
  next_subkey =
      let u = λ (j : ℕ) (l : j ≤ 112). upper j l in
      let first = upper 0 (omega arith) ∙ ap (λ (m : ℕ). bit_xor (n / 256 % 256 * 2 % 256 + m % 256 / 128) 0) (div-one n) in
      u 112 (omega arith) ◂ u 104 (omega arith) ◂ u 96 (omega arith) ◂ u 88 (omega arith) ◂ u 80 (omega arith) ◂ u 72 (omega arith) ◂ u 64 (omega arith)
      ◂ u 56 (omega arith) ◂ u 48 (omega arith) ◂ u 40 (omega arith) ◂ u 32 (omega arith) ◂ u 24 (omega arith) ◂ u 16 (omega arith) ◂ u 8 (omega arith)
      ◂ first ◂ lowest ◂ refl
