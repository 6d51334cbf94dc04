-- A turn of each mode's loop, from what the calls in it ensure, over any block cipher and width. Assumes nothing.
use mathlib.Core.Path.{◌≡◌, refl, sym, ap, ◌∙◌}
use mathlib.Core.List.{List, ◌++◌}
use mathlib.Core.Bool.{true, false}
use Prim.Native.Nat.{ℕ, ◌+◌, ◌/◌, ◌%◌, ◌≤◌, ◌<◌}
use native.Mathlib.Nat.{add-div_right}
use native.Mathlib.Numerals.{add-one}
use native.Mathlib.Omega.{arith}
use borrow.Author.Tests.{eq-eqb, ne_eqb}
use lib.Dec.{eqb, lit<}
use lib.ListN.{length, take, drop, length-take}
use Rattle.cipher.specs.Bytes.{◌⊕◌}
use Rattle.cipher.specs.Sp80038a.{cbc_out, cbc_back, itself, ofb_out, ofb_next, ofb_input, ofb, blocks, whole, if_whole, on_whole}
use Rattle.cipher.proofs.Xor.{length-⊕}
use Rattle.cipher.proofs.Copies.{length_part}
use Rattle.cipher.proofs.Chains.{Run, run_start, run_step, run_done}

module _ (CIPH : List ℕ → List ℕ) (w : ℕ) (pos : 0 < w) {s₀ buf₀ s buf : List ℕ} {at : ℕ} where
  -- a whole block: at + w is within
  module _ (h : at + w ≤ length buf) (block x y buf' : List ℕ) (l : block ≡ take w (drop at buf)) (long : length y ≡ w)
      (put : buf' ≡ take at buf ++ y ++ drop (at + w) buf) where
    pub cbc_turn : x ≡ block ⊕ s → y ≡ CIPH x → Run (cbc_out CIPH w) (cbc_out CIPH w) w s₀ buf₀ s buf at → Run (cbc_out CIPH w) (cbc_out CIPH w) w s₀ buf₀ y buf' (at + w)
    unfolding cbc_out
    cbc_turn p q r =
        let e : y ≡ CIPH (take w (drop at buf) ⊕ s) = cc in
        rw e (run_step _ _ w y buf' pos r (omega arith) (long ∙ sym (length_part buf at w h)) e put)

    pub back_turn : x ≡ CIPH block → y ≡ x ⊕ s → Run (cbc_back CIPH w) (itself CIPH w) w s₀ buf₀ s buf at → Run (cbc_back CIPH w) (itself CIPH w) w s₀ buf₀ block buf' (at + w)
    unfolding cbc_back
    back_turn p q r =
        let e : y ≡ CIPH (take w (drop at buf)) ⊕ s = cc in
        rw l (run_step _ _ w y buf' pos r (omega arith) (long ∙ sym (length_part buf at w h)) e put)

  pub ofb_turn : (y buf' : List ℕ) → at < length buf → y ≡ CIPH s → length y ≡ w → buf' ≡ take at buf ++ (take w (drop at buf) ⊕ y) ++ drop (at + w) buf
      → Run (ofb_out CIPH w) (ofb_next CIPH w) w s₀ buf₀ s buf at → Run (ofb_out CIPH w) (ofb_next CIPH w) w s₀ buf₀ y buf' (at + w)
  unfolding ofb_out ofb_next
  ofb_turn y buf' h e long put r =
      let k : length (take w (drop at buf)) ≤ length y = rw length-take (omega arith) in
      rw e (run_step _ _ w (take w (drop at buf) ⊕ y) buf' pos r h (length-⊕ _ _ k) (ap (λ (z : List ℕ). take w (drop at buf) ⊕ z) e) put)

-- ---- the input block of OFB

-- at a block boundary, and after one more block
pub input_turn : (CIPH : List ℕ → List ℕ) (w : ℕ) → 0 < w → (iv s y : List ℕ) (at : ℕ) → s ≡ ofb_input CIPH w (at / w) iv → y ≡ CIPH s → y ≡ ofb_input CIPH w ((at + w) / w) iv
unfolding ofb_input
input_turn CIPH w pos iv s y at e f = f ∙ ap CIPH e ∙ ap (λ (n : ℕ). ofb_input CIPH w n iv) (sym (add-div_right at pos ∙ add-one (at / w)))

-- what holds at the head of the loop: the blocks before `at` are done, and input is the next input block
pub record OfbAt (CIPH : List ℕ → List ℕ) (iv buf₀ input buf : List ℕ) (at : ℕ) : Type 0 where
  pub run : Run (ofb_out CIPH 16) (ofb_next CIPH 16) 16 iv buf₀ input buf at
  pub boundary : at % 16 ≡ 0
  pub within : at < length buf₀ + 16
  pub next : input ≡ ofb_input CIPH 16 (at / 16) iv

module _ (CIPH : List ℕ → List ℕ) (iv buf₀ : List ℕ) where
  pub ofb_start : OfbAt CIPH iv buf₀ iv buf₀ 0
  unfolding ofb_input
  ofb_start = record { run = run_start _ _ 16 _ _; boundary = refl; within = omega arith; next = refl }

  module _ {input buf : List ℕ} {at : ℕ} (o : OfbAt CIPH iv buf₀ input buf at) where
    pub ofb_step : (y buf' : List ℕ) → at < length buf → y ≡ CIPH input → length y ≡ 16 → buf' ≡ take at buf ++ (take 16 (drop at buf) ⊕ y) ++ drop (at + 16) buf
        → OfbAt CIPH iv buf₀ y buf' (at + 16)
    ofb_step y buf' h e long put =
        let same = o.run.same in
        let b = o.boundary in
        record {
          run = ofb_turn CIPH 16 (lit< tt) y buf' h e long put o.run;
          boundary = omega arith;
          within = omega arith;
          next = input_turn CIPH 16 (lit< tt) iv input y at o.next e;
        }

    pub ofb_done : length buf ≤ at → (buf ≡ ofb CIPH 16 iv buf₀) × (input ≡ ofb_input CIPH 16 (blocks 16 (length buf₀)) iv)
    unfolding ofb blocks
    ofb_done h =
        let same = o.run.same in
        let b = o.boundary in
        let w = o.within in
        let n : at / 16 ≡ (length buf₀ + 15) / 16 = omega arith in
        (run_done _ _ 16 (lit< tt) o.run h, o.next ∙ ap (λ (k : ℕ). ofb_input CIPH 16 k iv) n)

-- ---- calls that work on whole blocks alone

pub on_whole_lem : (w : ℕ) (f : List ℕ → List ℕ) (l : List ℕ) → length l % w ≡ 0 → (true ≡ whole w l) × (f l ≡ on_whole w f l)
unfolding whole on_whole if_whole
on_whole_lem w f l h = let e : eqb (length l % w) 0 ≡ true = eq-eqb _ _ h in (sym e, rw e)

pub off_whole : (w : ℕ) (f : List ℕ → List ℕ) (l : List ℕ) → (length l % w ≡ 0 → ⊥) → (false ≡ whole w l) × (l ≡ on_whole w f l)
unfolding whole on_whole if_whole
off_whole w f l h = let e : eqb (length l % w) 0 ≡ false = ne_eqb _ _ h in (sym e, rw e)
