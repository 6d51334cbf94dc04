-- The laws of `chain` (specs/Sp80038a), for any width w above 0. Assumes nothing.
use mathlib.Core.Path.{◌≡◌, refl, sym, ap, ◌∙◌}
use mathlib.Core.List.{List, ◌++◌, append_assoc, append-nil}
use mathlib.Core.Logic.{⊎_elim}
use Prim.Native.Nat.{ℕ, suc, ◌+◌, ◌-◌, ◌/◌, ◌≤◌, ◌<◌}
use native.Mathlib.Nat.{sub-zero, div-eq-sub-div, div-eq_of_lt}
use native.Mathlib.Numerals.{add-one}
use native.Mathlib.Omega.{arith}
use lib.ListN.{length, take, drop}
use lib.Seq.{drop-drop, take_all}
use Rattle.cipher.specs.Sp80038a.{chain, blocks}
use Rattle.cipher.proofs.Numbers.{le_or_lt}
use Rattle.cipher.proofs.Copies.{length_put, take_put, drop_put}

-- ---- the number of blocks

pub blocks_none : (w : ℕ) → 0 < w → blocks w 0 ≡ 0
unfolding blocks
blocks_none w p = div-eq_of_lt (omega arith)

-- one block less
pub blocks_more : (w n : ℕ) → 0 < w → 0 < n → blocks w n ≡ suc (blocks w (n - w))
unfolding blocks
blocks_more w n p q =
    div-eq-sub-div p (omega arith) ∙ add-one _
    ∙ ap suc
    (⊎_elim
    (λ (h : w ≤ n). ap (λ (k : ℕ). k / w) (omega arith))
    (λ (h : n < w). div-eq_of_lt (omega arith) ∙ sym (div-eq_of_lt (omega arith)))
    (le_or_lt w n))

module _ (out next : List ℕ → List ℕ → List ℕ) (w : ℕ) where
  -- what holds at the head of a loop that goes through buf₀ in place, block by block: at bytes are done, s is the state
  pub record Run (s₀ buf₀ s buf : List ℕ) (at : ℕ) : Type 0 where
    pub same : length buf ≡ length buf₀
    pub goal : take at buf ++ chain out next w s (blocks w (length buf - at)) (drop at buf) ≡ chain out next w s₀ (blocks w (length buf₀)) buf₀

  pub run_start : (s₀ buf₀ : List ℕ) → Run s₀ buf₀ s₀ buf₀ 0
  run_start s₀ buf₀ = record { same = refl; goal = rw sub-zero }

  -- a turn: b takes the place of the block at `at`, which may be short
  module _ {s₀ buf₀ s buf : List ℕ} {at : ℕ} (b buf' : List ℕ) (pos : 0 < w) (r : Run s₀ buf₀ s buf at) (more : at < length buf)
      (long : length b ≡ length (take w (drop at buf))) (is-out : b ≡ out s (take w (drop at buf))) (put : buf' ≡ take at buf ++ b ++ drop (at + w) buf) where
    len : length buf' ≡ length buf
    len = ap length put ∙ length_put buf b at w (omega arith) long

    pub run_step : Run s₀ buf₀ (next s (take w (drop at buf))) buf' (at + w)
    unfolding chain
    run_step =
        let h : at ≤ length buf = omega arith in
        let n : length buf - at - w ≡ length buf - (at + w) = omega arith in
        let m : blocks w (length buf - at) ≡ suc (blocks w (length buf - (at + w))) = blocks_more w (length buf - at) pos (omega arith) ∙ ap (λ (k : ℕ). suc (blocks w k)) n in
        record {
          same = len ∙ r.same;
          goal = rw (len, put, take_put buf b at w h long, drop_put buf b at w h long) (rw append_assoc (rw (m, ← is-out, drop-drop) at r.goal));
        }

  pub run_done : {s₀ buf₀ s buf : List ℕ} {at : ℕ} → 0 < w → Run s₀ buf₀ s buf at → length buf ≤ at → buf ≡ chain out next w s₀ (blocks w (length buf₀)) buf₀
  unfolding chain
  run_done {s₀} {buf₀} {s} {buf} {at} p r h =
      let k : length buf - at ≡ 0 = omega arith in
      sym (append-nil buf) ∙ rw (k, blocks_none w p, take_all at buf h) at r.goal
