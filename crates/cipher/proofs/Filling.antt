-- A list that a loop fills from its front: after i turns it has the first i entries of the target t and then what was there before.
-- Copies, fills and block operations are such loops. Assumes nothing.
use mathlib.Core.Path.{◌≡◌, refl, sym, ap, ◌∙◌}
use mathlib.Core.List.{List, ◌++◌, append-nil}
use Prim.Native.Nat.{ℕ, suc, ◌+◌, ◌≤◌, ◌<◌}
use native.Mathlib.Nat.{le_antisymm, add-zero}
use native.Mathlib.Numerals.{add-one}
use native.Mathlib.Omega.{arith}
use lib.ListN.{length, take, drop, set, get_or, length-append, length-drop, drop_of_length-le}
use lib.Seq.{length-take-le, take-suc, drop-cons, append_snoc, set_at, take-length, get_or-append-add, get_or-drop}

pub record Filled (t d₀ d : List ℕ) (i : ℕ) : Type 0 where
  pub fits : length t ≤ length d₀
  pub within : i ≤ length t
  pub holds : d ≡ take i t ++ drop i d₀

pub fill_start : (t d₀ : List ℕ) → length t ≤ length d₀ → Filled t d₀ d₀ 0
fill_start t d₀ h = record { fits = h; within = omega arith; holds = refl }

module _ {t d₀ d : List ℕ} {i : ℕ} (r : Filled t d₀ d i) where
  -- it keeps its length
  pub fill_length : length d ≡ length d₀
  fill_length = ap length r.holds ∙ simp (length-append, length-drop, length-take-le i t r.within) (omega arith)

  -- what is still to be filled is as it was
  pub fill_ahead : get_or d i 0 ≡ get_or d₀ i 0
  fill_ahead =
      let e : length (take i t) + 0 ≡ i = ap (λ (n : ℕ). n + 0) (length-take-le i t r.within) ∙ add-zero i in
      ap (λ (l : List ℕ). get_or l i 0) r.holds ∙ ap (λ (n : ℕ). get_or (take i t ++ drop i d₀) n 0) (sym e)
      ∙ get_or-append-add (take i t) (drop i d₀) 0 0 ∙ get_or-drop i d₀ 0 0 ∙ ap (λ (n : ℕ). get_or d₀ n 0) (add-zero i)

  pub fill_step : i < length t → (x : ℕ) → x ≡ get_or t i 0 → Filled t d₀ (set d i x) (i + 1)
  fill_step h x e =
      record {
        fits = r.fits;
        within = omega arith;
        holds =
            ap (λ (l : List ℕ). set l i x) (r.holds ∙ ap (λ (l : List ℕ). take i t ++ l) (drop-cons d₀ i 0 (omega arith)))
            ∙ set_at (take i t) (get_or d₀ i 0) (drop (suc i) d₀) x i (length-take-le i t r.within)
            ∙ rw (add-one, take-suc t i 0 h, ← e) (sym (append_snoc (take i t) x (drop (suc i) d₀)));
      }

  pub fill_done : length t ≤ i → d ≡ t ++ drop (length t) d₀
  fill_done h = r.holds ∙ rw (le_antisymm r.within h, take-length t)

  -- the target is as long as the list
  pub fill_all : length t ≤ i → length d₀ ≤ length t → d ≡ t
  fill_all h k = fill_done h ∙ rw (drop_of_length-le d₀ k) (append-nil t)
