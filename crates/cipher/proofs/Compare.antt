-- A comparison that gathers the differences of all bytes before it answers. Assumes nothing.
use mathlib.Core.Path.{◌≡◌, refl, sym, ap, ap₂, ◌∙◌}
use mathlib.Core.List.{List}
use mathlib.Core.Bool.{true}
use Prim.Native.Nat.{ℕ, ◌+◌, ◌≤◌, ◌<◌}
use native.Mathlib.Nat.{not-suc-le-zero}
use native.Mathlib.Omega.{arith}
use borrow.Author.Count.{below_more}
use borrow.Author.Tests.{eq-eqb, eqb-true}
use lib.Bits.{bit_or, bit_xor, or_add_and, xor_add_and, and_le_l, and_le_r, xor_self}
use lib.Dec.{eqb}
use lib.ListN.{length, get_or}
use lib.Seq.{ext_get_or}

or_zero_l : (a b : ℕ) → bit_or a b ≡ 0 → a ≡ 0
or_zero_l a b e = omega (arith, or_add_and a b, and_le_r a b)

or_zero_r : (a b : ℕ) → bit_or a b ≡ 0 → b ≡ 0
or_zero_r a b e = omega (arith, or_add_and a b, and_le_l a b)

xor_zero : (a b : ℕ) → bit_xor a b ≡ 0 → a ≡ b
xor_zero a b e = omega (arith, xor_add_and a b, and_le_l a b, and_le_r a b)

-- a and b agree at each place before i
abbrev pub Agree : List ℕ → List ℕ → ℕ → Type 0
Agree a b i = (k : ℕ) → k < i → get_or a k 0 ≡ get_or b k 0

-- diff is 0 just if they do
pub record Gathered (a b : List ℕ) (diff i : ℕ) : Type 0 where
  pub same_length : length a ≡ length b
  pub within : i ≤ length a
  pub sound : diff ≡ 0 → Agree a b i
  pub complete : Agree a b i → diff ≡ 0

-- before the first byte
pub gather_start : (a b : List ℕ) → length a ≡ length b → Gathered a b 0 0
gather_start a b e = record { same_length = e; within = omega arith; sound = λ _ k h. absurd (not-suc-le-zero h); complete = λ _. refl }

pub gather_step : {a b : List ℕ} {diff i : ℕ} → Gathered a b diff i → i < length a → Gathered a b (bit_or diff (bit_xor (get_or a i 0) (get_or b i 0))) (i + 1)
gather_step {a} {b} {diff} {i} g h =
    record {
      same_length = g.same_length;
      within = omega arith;
      sound = λ e. below_more _ _ (g.sound (or_zero_l _ _ e)) (xor_zero _ _ (or_zero_r diff _ e));
      complete = λ f.
          ap₂ bit_or (g.complete (λ k l. f k (omega arith))) (ap (bit_xor (get_or a i 0)) (sym (f i (omega arith))) ∙ xor_self (get_or a i 0));
    }

pub gather_done : {a b : List ℕ} {diff i : ℕ} → Gathered a b diff i → length a ≤ i → (eqb diff 0 ≡ true → a ≡ b) × (a ≡ b → eqb diff 0 ≡ true)
gather_done {a} {b} {diff} {i} g h = (
  λ e. ext_get_or 0 a b g.same_length (λ k l. g.sound (eqb-true diff 0 e) k (omega arith)),
  λ e. eq-eqb diff 0 (g.complete (λ k l. ap (λ (s : List ℕ). get_or s k 0) e)),
)
