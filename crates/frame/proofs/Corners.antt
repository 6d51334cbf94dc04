-- Values that the definitions have at given places. Assumes nothing.
use mathlib.Core.Path.{◌≡◌, refl, ap, ◌∙◌}
use mathlib.Core.List.{List, [], ◌∷◌, ◌++◌, append-nil}
use Prim.Native.Nat.{ℕ, ◌≤◌, ◌<◌}
use native.Mathlib.Omega.{arith}
use borrow.Author.Tests.{eq-eqb, lt-ltb}
use lib.Dec.{lit<}
use lib.ListN.{length, replicate}
use Rattle.cipher.proofs.Folds.{under_none}
use Rattle.frame.specs.AesFrame.{aes_iv}
use Rattle.frame.specs.DesFrame.{mac_start, des_mac, des_size, seal_rows, des_sealing}
use Rattle.answer.specs.Number.{number_bytes}
use Rattle.answer.specs.Outcome.{Outcome, refused, choose, decide}
use Rattle.frame.specs.Padding.{pad_count, pad}
use Rattle.frame.proofs.DesSeals.{size_most}
use Rattle.answer.proofs.Refusals.{isnt_of, either_of, acceptance_zero}
use Rattle.frame.proofs.Sealing.{des_seals}

-- what a string of n bytes gains
pub padded : (l : List ℕ) (n : ℕ) → length l ≡ n → pad l ≡ l ++ replicate (pad_count n) (pad_count n)
unfolding pad
padded l n e = rw e

pub pad_7 : (l : List ℕ) → length l ≡ 7 → pad l ≡ l ++ (0x01 ∷ [])
unfolding pad_count
pad_7 l e = padded l 7 e

pub pad_9 : (l : List ℕ) → length l ≡ 9 → pad l ≡ l ++ replicate 7 0x07
unfolding pad_count
pad_9 l e = padded l 9 e

pub pad_0 : (l : List ℕ) → length l ≡ 0 → pad l ≡ l
unfolding pad_count
pad_0 l e = padded l 0 e ∙ append-nil l

pub pad_8 : (l : List ℕ) → length l ≡ 8 → pad l ≡ l
unfolding pad_count
pad_8 l e = padded l 8 e ∙ append-nil l

pub mac_empty : des_mac 0x13 [] ≡ 0x0A ∷ 0x13 ∷ 0x00 ∷ 0x00 ∷ 0x00 ∷ 0x00 ∷ 0x00 ∷ 0x00 ∷ []
unfolding des_mac mac_start
mac_empty = under_none _ 8 (0x0A ∷ 0x13 ∷ replicate 6 0x00) (lit< tt)

pub iv_43 : aes_iv 0 0x43 (number_bytes 1) (0x11 ∷ 0x12 ∷ 0x13 ∷ 0x14 ∷ 0x15 ∷ 0x16 ∷ []) (0x21 ∷ 0x22 ∷ 0x23 ∷ 0x24 ∷ [])
    ≡ 0x01 ∷ 0x0C ∷ 0x43 ∷ 0x01 ∷ 0x00 ∷ 0x11 ∷ 0x12 ∷ 0x13 ∷ 0x14 ∷ 0x15 ∷ 0x16 ∷ 0x22 ∷ 0x23 ∷ 0x24 ∷ 0x00 ∷ 0x00 ∷ []
unfolding aes_iv
iv_43 = refl

module _ (key id payload : List ℕ) (code number room : ℕ) (hk : length key ≡ 8) (hi : length id ≡ 6) where
  pub size_232 : length payload ≡ 232 → 248 ≤ room → (des_sealing key code number id payload room).number ≡ 0
  size_232 e h =
      let f : des_size (length payload) ≤ room = let l = size_most (length payload) (omega arith) in omega arith in
      ap (λ (o : Outcome). o.number) (des_seals id payload code number room key (record { six = hi; all = hk; short = omega arith; fits = f })) ∙ acceptance_zero 0 _ _

  pub size_233 : length payload ≡ 233 → (des_sealing key code number id payload room).number ≡ 12
  unfolding des_sealing seal_rows decide choose refused
  size_233 e = let l : 232 < length payload = omega arith in rw (either_of _ _ (isnt_of _ (eq-eqb _ _ hi)) (isnt_of _ (eq-eqb _ _ hk)), lt-ltb _ _ l)
