-- The tables of the code have the rules that the contracts ask, the inverse in GF(2^8) is one, and the S-boxes undo each other: tests of all 256
-- entries or bytes, which antt computes, and what follows. Assumes nothing.
use mathlib.Core.Path.{◌≡◌, refl, sym, ap, ◌∙◌}
use mathlib.Core.Bool.{Bool}
use mathlib.Core.List.{List}
use Prim.Native.Nat.{ℕ, zero, suc, ◌/◌, ◌%◌, ◌<◌}
use native.Mathlib.Omega.{arith}
use lib.Dec.{T, eqb, eqb→eq}
use lib.ListN.{length, get_or, replicate}
use Rattle.cipher.specs.declared.aes.TheConstants.{TE, U, INV_S}
use Rattle.cipher.specs.Bytes.{tab, word_bytes}
use Rattle.cipher.specs.Fips197.{xtime, if_bit, add_times, ◌•◌, times_squares, inverse, bit, from_bits, affine, s_box, inv_affine, inv_s_box}
use Rattle.cipher.specs.inner.AesTables.{multiples}
use Rattle.cipher.proofs.Table.{both, both_left, both_right, every, at, below}
use Rattle.cipher.proofs.Words.{◌◂◌}
use Rattle.cipher.proofs.AesBytes.{inverse_byte, s_box_byte, inv_affine_byte, inv_s_box_byte}

-- ---- the rules of tables

-- word x of the table is the product of the circulant matrix whose first row is a0 a1 a2 a3 with the column f x, 0, 0, 0
pub record MixTable (a0 a1 a2 a3 : ℕ) (f : ℕ → ℕ) (t : List ℕ) : Type 0 where
  pub size : length t ≡ 256
  pub entry : (x : ℕ) → x < 256 → word_bytes (get_or t x 0) ≡ multiples a0 a1 a2 a3 (f x)

-- entry x of the table is f x
pub record ByteTable (f : ℕ → ℕ) (t : List ℕ) : Type 0 where
  pub size : length t ≡ 256
  pub entry : (x : ℕ) → x < 256 → get_or t x 0 ≡ f x

-- SubBytes and MixColumns in one; its second byte is the S-box
abbrev pub TeTable : List ℕ → Type 0
TeTable = MixTable 0x02 0x03 0x01 0x01 s_box

-- InvMixColumns
abbrev pub UTable : List ℕ → Type 0
UTable = MixTable 0x0e 0x0b 0x0d 0x09 (λ x. x)

abbrev pub InvSTable : List ℕ → Type 0
InvSTable = ByteTable inv_s_box

unit : (x : ℕ) → 1 • x ≡ x
unfolding ◌•◌ add_times if_bit
unit x = refl

-- the second byte of a word of multiples
pub second_byte : (w x : ℕ) → word_bytes w ≡ multiples 0x02 0x03 0x01 0x01 x → w / 65536 % 256 ≡ x
unfolding word_bytes multiples
second_byte w x e = ap (λ (l : List ℕ). get_or l 1 0) e ∙ unit x

-- so the second byte of an entry is the S-box
pub te_second : (t : List ℕ) → TeTable t → (x : ℕ) → x < 256 → get_or t x 0 / 65536 % 256 ≡ s_box x
te_second t m x h = second_byte (get_or t x 0) (s_box x) (m.entry x h)

-- ---- the code's tables `TE`, `U` and `INV_S`

-- a test of each entry of a table of 256
entries : (t : List ℕ) → length t ≡ 256 → (f : ℕ → ℕ → Bool) → T (every f 0 t) → (k : ℕ) → k < 256 → T (f k (get_or t k 0))
entries t l f test k h = at f t test k (rw l h)

-- the four bytes of the word x are the products with y
four_bytes : ℕ → ℕ → ℕ → ℕ → ℕ → ℕ → Bool
four_bytes a0 a1 a2 a3 y x =
    both (eqb (x / 16777216 % 256) (a0 • y)) (both (eqb (x / 65536 % 256) (a3 • y)) (both (eqb (x / 256 % 256) (a2 • y)) (eqb (x % 256) (a1 • y))))

four_bytes_lem : (a0 a1 a2 a3 y x : ℕ) → T (four_bytes a0 a1 a2 a3 y x) → word_bytes x ≡ multiples a0 a1 a2 a3 y
unfolding four_bytes word_bytes multiples
four_bytes_lem a0 a1 a2 a3 y x p =
    let t0 : Bool = eqb (x / 16777216 % 256) (a0 • y) in
    let t1 : Bool = eqb (x / 65536 % 256) (a3 • y) in
    let t2 : Bool = eqb (x / 256 % 256) (a2 • y) in
    let t3 : Bool = eqb (x % 256) (a1 • y) in
    let p1 : T (both t1 (both t2 t3)) = both_right t0 (both t1 (both t2 t3)) p in
    let p2 : T (both t2 t3) = both_right t1 (both t2 t3) p1 in
    eqb→eq _ _ (both_left t0 (both t1 (both t2 t3)) p) ◂ eqb→eq _ _ (both_left t1 (both t2 t3) p1) ◂ eqb→eq _ _ (both_left t2 t3 p2)
    ◂ eqb→eq _ _ (both_right t2 t3 p2) ◂ refl

-- a table that passes the test at each entry has the rule
module _ (a0 a1 a2 a3 : ℕ) (f : ℕ → ℕ) where
  mix_test : ℕ → ℕ → Bool
  mix_test k x = four_bytes a0 a1 a2 a3 (f k) x

  mix_table : (t : List ℕ) → length t ≡ 256 → T (every mix_test 0 t) → MixTable a0 a1 a2 a3 f t
  unfolding mix_test
  mix_table t l test = record { size = l; entry = λ k h. four_bytes_lem a0 a1 a2 a3 (f k) (get_or t k 0) (entries t l mix_test test k h) }

pub te_rule : TeTable TE
unfolding mix_test four_bytes xtime if_bit add_times ◌•◌ times_squares inverse bit from_bits tab affine s_box
te_rule = mix_table 0x02 0x03 0x01 0x01 s_box TE refl tt

pub u_rule : UTable U
unfolding mix_test four_bytes xtime if_bit add_times ◌•◌
u_rule = mix_table 0x0e 0x0b 0x0d 0x09 (λ x. x) U refl tt

-- ---- the inverse in GF(2^8) and the S-boxes, by the tables

affine_test : ℕ → Bool
affine_test b = eqb (inv_affine (affine b)) b

affine_test_lem : T (every (λ k x. affine_test k) 0 (replicate 256 0))
unfolding affine_test bit from_bits tab affine inv_affine
affine_test_lem = tt

inverse_te : (x : ℕ) → x < 256 → inverse x ≡ inv_affine (get_or TE x 0 / 65536 % 256)
unfolding affine_test s_box
inverse_te x h =
    sym (eqb→eq (inv_affine (affine (inverse x))) (inverse x) (below 256 affine_test affine_test_lem (inverse x) (inverse_byte x h)))
    ∙ ap inv_affine (sym (te_second TE te_rule x h))

inverse_test : ℕ → ℕ → Bool
inverse_test k x = eqb (k • inv_affine (x / 65536 % 256)) (if_bit k 1 0)

inverse_test_lem : T (every inverse_test 0 TE)
unfolding inverse_test xtime if_bit add_times ◌•◌ bit from_bits tab inv_affine
inverse_test_lem = tt

-- 4.2: a byte other than {00} times its inverse is {01}
pub inverse_is_inverse : (x : ℕ) → 0 < x → x < 256 → x • inverse x ≡ 1
unfolding inverse_test if_bit
inverse_is_inverse zero p h = absurd (omega arith)
inverse_is_inverse (suc k) p h = ap (◌•◌ (suc k)) (inverse_te (suc k) h) ∙ eqb→eq _ _ (entries TE te_rule.size inverse_test inverse_test_lem (suc k) h)

inv_s_test : ℕ → ℕ → Bool
inv_s_test k x = eqb x (inv_affine (get_or TE (inv_affine k) 0 / 65536 % 256))

inv_s_test_lem : T (every inv_s_test 0 INV_S)
unfolding inv_s_test bit from_bits tab inv_affine
inv_s_test_lem = tt

inv_s_size : length INV_S ≡ 256
inv_s_size = refl

pub inv_s_rule : InvSTable INV_S
unfolding inv_s_test inv_s_box
inv_s_rule = record {
  size = inv_s_size;
  entry = λ k h. eqb→eq _ _ (entries INV_S inv_s_size inv_s_test inv_s_test_lem k h) ∙ sym (inverse_te (inv_affine k) (inv_affine_byte k));
}

undo_test : ℕ → ℕ → Bool
undo_test k x = eqb (get_or INV_S (x / 65536 % 256) 0) k

redo_test : ℕ → ℕ → Bool
redo_test k x = eqb (get_or TE x 0 / 65536 % 256) k

undo_test_lem : T (every undo_test 0 TE) × T (every redo_test 0 INV_S)
unfolding undo_test redo_test
undo_test_lem = (tt, tt)

pub inv_s_box_s_box : (x : ℕ) → x < 256 → inv_s_box (s_box x) ≡ x
unfolding undo_test
inv_s_box_s_box x h =
    sym (inv_s_rule.entry (s_box x) (s_box_byte x)) ∙ ap (λ (y : ℕ). get_or INV_S y 0) (sym (te_second TE te_rule x h))
    ∙ eqb→eq _ _ (entries TE te_rule.size undo_test undo_test_lem.0 x h)

pub s_box_inv_s_box : (x : ℕ) → x < 256 → s_box (inv_s_box x) ≡ x
unfolding redo_test
s_box_inv_s_box x h =
    sym (te_second TE te_rule (inv_s_box x) (inv_s_box_byte x)) ∙ ap (λ (y : ℕ). get_or TE y 0 / 65536 % 256) (sym (inv_s_rule.entry x h))
    ∙ eqb→eq _ _ (entries INV_S inv_s_size redo_test undo_test_lem.1 x h)
