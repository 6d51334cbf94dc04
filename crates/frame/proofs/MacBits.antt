-- The DES MAC never sees the lowest bit of a byte: plain texts whose bytes have the same halves have the same MAC. Assumes nothing.
use mathlib.Core.Path.{◌≡◌, sym, ap, ap₂, ◌∙◌}
use mathlib.Core.List.{List, ◌++◌, map}
use Prim.Native.Nat.{ℕ, ◌+◌, ◌-◌, ◌*◌, ◌/◌, ◌%◌, ◌<◌}
use native.Mathlib.Omega.{arith}
use lib.ListN.{length, get_or, set}
use lib.Seq.{get_or-set_same, map-set_same}
use Rattle.cipher.specs.Fips46.{des_encrypt}
use Rattle.cipher.specs.Fold.{under_each}
use Rattle.cipher.proofs.Ciphers.{des_under_halves, des_back_halves}
use Rattle.cipher.proofs.Folds.{length_alike}
use Rattle.frame.specs.DesFrame.{mac_start, des_mac, mac_holds}
use Rattle.answer.specs.Tests.{same}
use Rattle.frame.proofs.DesTrip.{mac_behind}

module _ (code : ℕ) (p q : List ℕ) (e : map (λ x. x / 2) p ≡ map (λ x. x / 2) q) where
  pub mac_ignores_lowest_bits : des_mac code p ≡ des_mac code q
  unfolding des_mac
  mac_ignores_lowest_bits =
      des_under_halves p q (mac_start (length p + 10) code) e
      ∙ ap (λ (n : ℕ). under_each des_encrypt 8 q (mac_start (n + 10) code)) (length_alike (λ x. x / 2) p q e)

  -- a MAC behind the one holds exactly if it holds behind the other
  pub mac_holds_ignores_lowest_bits : (m : List ℕ) → length m ≡ 8 → mac_holds code (p ++ m) ≡ mac_holds code (q ++ m)
  mac_holds_ignores_lowest_bits m h =
      mac_behind code p m h
      ∙ ap₂ (λ (b : List ℕ) (n : ℕ). same b (mac_start (n + 10) code)) (des_back_halves p q m e) (length_alike (λ x. x / 2) p q e)
      ∙ sym (mac_behind code q m h)

-- x with its other lowest bit
abbrev pub flipped : ℕ → ℕ
flipped x = x / 2 * 2 + (1 - x % 2)

-- so no text but the empty one has a MAC of its own: with any byte flipped it is another text, and has the same
pub flipped_same_mac : (code i : ℕ) (p : List ℕ) → des_mac code (set p i (flipped (get_or p i 0))) ≡ des_mac code p
flipped_same_mac code i p = mac_ignores_lowest_bits code (set p i _) p (map-set_same (λ x. x / 2) p i _ 0 (omega arith))

pub flipped_differs : (i : ℕ) (p : List ℕ) → i < length p → set p i (flipped (get_or p i 0)) ≡ p → ⊥
flipped_differs i p h e =
    let b : flipped (get_or p i 0) ≡ get_or p i 0 = sym (get_or-set_same p i _ 0 h) ∙ ap (λ (l : List ℕ). get_or l i 0) e in
    omega arith
