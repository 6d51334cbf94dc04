-- The laws of CMAC (specs/Sp80038b), for any width above 0. Assumes nothing.
use mathlib.Core.Path.{◌≡◌, refl, sym, ap, ap₂, ◌∙◌}
use mathlib.Core.List.{List, [], ◌∷◌, ◌++◌, append-nil}
use mathlib.Core.Logic.{⊎_elim}
use Prim.Native.Nat.{ℕ, zero, suc, ◌+◌, ◌-◌, ◌*◌, ◌≤◌, ◌<◌}
use native.Mathlib.Nat.{mul-zero, mul-suc, sub-zero, eq-zero-or-pos}
use native.Mathlib.Omega.{arith}
use lib.ListN.{length, take, drop, set, get_or, replicate, length-append}
use Rattle.std.specs.Simd.{first_chunks}
use Rattle.std.proofs.lemmas.List.{drop-take}
use lib.Seq.{take-take, drop-drop, take_at, drop_at, set_at}
use Rattle.cipher.specs.Bytes.{◌⊕◌}
use Rattle.cipher.specs.Sp80038a.{blocks}
use Rattle.cipher.specs.Sp80038b.{shift_left, double, K1, K2, last_block, mac_from, cmac}
use Rattle.cipher.proofs.Tabulation.{length_tab}
use Rattle.cipher.proofs.Xor.{zeros-⊕}
use Rattle.cipher.proofs.Chains.{blocks_none, blocks_more}

-- a block shifted left has the w bytes of its width
pub length_shift_left : (w : ℕ) (x : List ℕ) → length (shift_left w x) ≡ w
unfolding shift_left
length_shift_left w x = length_tab w _

pub drop_replicate : (n m : ℕ) (a : ℕ) → drop n (replicate m a) ≡ replicate (m - n) a
drop_replicate zero m a = rw sub-zero
drop_replicate (suc n) zero a = let e : 0 - suc n ≡ 0 = omega arith in rw e
drop_replicate (suc n) (suc m) a = let e : suc m - suc n ≡ m - n = omega arith in drop_replicate n m a ∙ rw e

-- m with the byte 0x80 put behind it and zeros after that, to w bytes: m was copied over zeros
pub padded_is : (w : ℕ) (m out : List ℕ) → length m < w → out ≡ m ++ drop (length m) (replicate w 0) → set out (length m) 128 ≡ m ++ 128 ∷ replicate (w - 1 - length m) 0
padded_is w m out h e =
    let n : w - length m ≡ suc (w - 1 - length m) = omega arith in
    ap (λ (l : List ℕ). set l (length m) 128) (e ∙ ap (λ (l : List ℕ). m ++ l) (drop_replicate (length m) w 0 ∙ ap (λ (k : ℕ). replicate k 0) n))
    ∙ set_at m 0 (replicate (w - 1 - length m) 0) 128 (length m) refl

-- block i of those that the front of m is cut into, k blocks long
chunk_at : (w k i : ℕ) (m : List ℕ) → i < k → get_or (first_chunks w k m) i [] ≡ take w (drop (w * i) m)
chunk_at w zero i m h = absurd (omega arith)
chunk_at w (suc k) zero m h = rw mul-zero
chunk_at w (suc k) (suc i) m h =
    let e : w * suc i ≡ w + w * i = omega (arith, mul-suc w i) in
    chunk_at w k i (drop w m) (omega arith) ∙ rw (e, ← drop-drop)

pub front_block : (k i : ℕ) (m : List ℕ) → i < k → get_or (first_chunks 16 k (take (k * 16) m)) i [] ≡ take 16 (drop (16 * i) m)
front_block k i m h =
    let e : k * 16 ≡ 16 * i + 16 * (k - i) = omega arith in
    chunk_at 16 k i (take (k * 16) m) h
    ∙ rw e (ap (take 16) (drop-take (16 * i) (16 * (k - i)) m) ∙ take-take 16 (16 * (k - i)) (drop (16 * i) m) (omega arith))

pub blocks_one : (w n : ℕ) → 0 < w → n ≤ w → blocks w n - 1 ≡ 0
blocks_one w n p h =
    ⊎_elim
    (λ (e : n ≡ 0). rw (e, blocks_none w p))
    (λ (q : 0 < n). let z : n - w ≡ 0 = omega arith in rw (blocks_more w n p q, z, blocks_none w p))
    (eq-zero-or-pos n)

module _ (CIPH : List ℕ → List ℕ) (w Rb : ℕ) (pos : 0 < w) where
  -- the blocks before `at` are in the state s; what is left gives the whole
  pub record Mac (m s₀ s : List ℕ) (at : ℕ) : Type 0 where
    pub within : at ≤ length m
    pub goal : mac_from CIPH w Rb s (blocks w (length m - at) - 1) (drop at m) ≡ mac_from CIPH w Rb s₀ (blocks w (length m) - 1) m

  pub mac_start_lem : (m s₀ : List ℕ) → Mac m s₀ s₀ 0
  mac_start_lem m s₀ = record { within = omega arith; goal = rw sub-zero }

  pub mac_step : {m s₀ s : List ℕ} {at : ℕ} → Mac m s₀ s at → w < length m - at → (block x t : List ℕ) → block ≡ take w (drop at m) → x ≡ s ⊕ block → t ≡ CIPH x
      → Mac m s₀ t (at + w)
  unfolding mac_from
  mac_step {m} {s₀} {s} {at} r h block x t e f g =
      let n : length m - at - w ≡ length m - (at + w) = omega arith in
      let a : blocks w (length m - at) ≡ suc (blocks w (length m - (at + w))) = blocks_more w (length m - at) pos (omega arith) ∙ ap (λ (k : ℕ). suc (blocks w k)) n in
      let b : blocks w (length m - (at + w)) ≡ suc (blocks w (length m - (at + w) - w)) = blocks_more w (length m - (at + w)) pos (omega arith) in
      let k : blocks w (length m - at) - 1 ≡ suc (blocks w (length m - (at + w)) - 1) = omega arith in
      let z : mac_from CIPH w Rb (CIPH (s ⊕ take w (drop at m))) (blocks w (length m - (at + w)) - 1) (drop w (drop at m)) ≡ mac_from CIPH w Rb s₀ (blocks w (length m) - 1) m = rw k at r.goal in
      record { within = omega arith; goal = rw (g, f, e) (rw drop-drop at z) }

  -- the last block, whole or not, goes in
  pub mac_done : {m s₀ s : List ℕ} {at : ℕ} → Mac m s₀ s at → length m - at ≤ w → (last x r : List ℕ)
      → last ≡ last_block CIPH w Rb (w - length (drop at m)) (drop at m) → x ≡ s ⊕ last → r ≡ CIPH x → r ≡ mac_from CIPH w Rb s₀ (blocks w (length m) - 1) m
  unfolding mac_from
  mac_done {m} {s₀} {s} {at} r h last x y e f g =
      let z : CIPH (s ⊕ last_block CIPH w Rb (w - length (drop at m)) (drop at m)) ≡ mac_from CIPH w Rb s₀ (blocks w (length m) - 1) m = rw (blocks_one w (length m - at) pos h) at r.goal in
      g ∙ rw (f, e) z

  -- what the cipher always gives, a MAC is
  module _ (Good : List ℕ → Type 0) (gives : (b : List ℕ) → Good (CIPH b)) where
    mac_block_from : (n : ℕ) (s m : List ℕ) → Good (mac_from CIPH w Rb s n m)
    unfolding mac_from
    mac_block_from zero s m = gives (s ⊕ last_block CIPH w Rb (w - length m) m)
    mac_block_from (suc n) s m = mac_block_from n (CIPH (s ⊕ take w m)) (drop w m)

    pub mac_block : (m : List ℕ) → Good (cmac CIPH w Rb m)
    unfolding cmac
    mac_block m = mac_block_from (blocks w (length m) - 1) (replicate w 0) m

  -- CMAC of a string followed by the empty one
  pub cmac_alone : (first m : List ℕ) → length m ≡ 0 → mac_from CIPH w Rb (replicate w 0) (blocks w (length first) - 1) first ≡ cmac CIPH w Rb (first ++ m)
  unfolding cmac
  cmac_alone first [] h = rw append-nil
  cmac_alone first (x ∷ m) h = absurd (omega arith)

  -- CMAC of a block followed by m
  pub cmac_after : (first m : List ℕ) → length first ≡ w → 0 < length m → mac_from CIPH w Rb (CIPH first) (blocks w (length m) - 1) m ≡ cmac CIPH w Rb (first ++ m)
  unfolding cmac mac_from
  cmac_after first m l h =
      let e : length (first ++ m) ≡ w + length m = length-append first m ∙ rw l in
      let n : w + length m - w ≡ length m = omega arith in
      let a : blocks w (length (first ++ m)) ≡ suc (blocks w (length m)) = ap (blocks w) e ∙ blocks_more w (w + length m) pos (omega arith) ∙ rw n in
      let b : blocks w (length m) ≡ suc (blocks w (length m - w)) = blocks_more w (length m) pos h in
      let k : blocks w (length (first ++ m)) - 1 ≡ suc (blocks w (length m) - 1) = omega arith in
      let z : replicate w 0 ⊕ first ≡ first = zeros-⊕ first w (omega arith) in
      sym
      (ap (λ (j : ℕ). mac_from CIPH w Rb (replicate w 0) j (first ++ m)) k
      ∙ ap₂ (λ (c t : List ℕ). mac_from CIPH w Rb (CIPH c) (blocks w (length m) - 1) t)
      (ap (λ (t : List ℕ). replicate w 0 ⊕ t) (take_at first m w l) ∙ z)
      (drop_at first m w l))

  -- the last block as the code makes it
  module _ (m : List ℕ) {l k1 : List ℕ} (is-l : l ≡ CIPH (replicate w 0)) (is-k1 : k1 ≡ double w Rb l) where
    pub last_whole : (block r : List ℕ) → length m ≡ w → block ≡ m → r ≡ k1 ⊕ block → r ≡ last_block CIPH w Rb (w - length m) m
    unfolding last_block K1
    last_whole block r h e f =
        let z : w - length m ≡ 0 = omega arith in
        f ∙ rw (z, e, is-k1, is-l)

    pub last_short : (k2 block r : List ℕ) → length m < w → k2 ≡ double w Rb k1
        → block ≡ m ++ 128 ∷ replicate (w - 1 - length m) 0 → r ≡ k2 ⊕ block → r ≡ last_block CIPH w Rb (w - length m) m
    unfolding last_block K1 K2
    last_short k2 block r h e f g =
        let z : w - length m ≡ suc (w - 1 - length m) = omega arith in
        g ∙ rw (z, f, e, is-k1, is-l)
