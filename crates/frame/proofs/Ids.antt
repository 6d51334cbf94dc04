-- Two IDs are equal if their numbers are. Assumes nothing.
use mathlib.Core.Path.{◌≡◌, sym, ap, ◌∙◌}
use mathlib.Core.Bool.{true}
use mathlib.Core.List.{List, ◌++◌}
use Prim.Native.Nat.{ℕ, ◌≤◌, ◌<◌}
use native.Mathlib.Omega.{arith}
use borrow.Author.Tests.{eqb-true, eq-eqb}
use lib.Dec.{eqb}
use lib.ListN.{length, take, drop, replicate, get_or}
use lib.Seq.{take_at, take_all}
use Rattle.std.proofs.lemmas.Nat.{le_bytes_8}
use Rattle.std.specs.Int.{w64, from_le_bytes, to_le_bytes}
use Rattle.answer.specs.Fixed.{fit}

-- the bytes in front of the zeros
front_of : (s : List ℕ) → length s ≡ 6 → take 6 (fit 8 s) ≡ s
front_of s l =
    let h : length s ≤ 8 = omega arith in
    ap (take 6) (ap (λ (t : List ℕ). t ++ drop (length s) (replicate 8 0)) (take_all 8 s h)) ∙ take_at s (drop (length s) (replicate 8 0)) 6 l

-- the numbers m and n of the bytes a and b, which the IDs x and y were read into
module _ (x y a b : List ℕ) (m n : ℕ) (lx : length x ≡ 6) (ly : length y ≡ 6) (ea : a ≡ fit 8 x) (eb : b ≡ fit 8 y) (em : m ≡ from_le_bytes w64 a) (en : n ≡ from_le_bytes w64 b) where
  pub same_ids : (la : length a ≡ 8) (lb : length b ≡ 8) → ((i : ℕ) → get_or a i 0 < 256) → ((i : ℕ) → get_or b i 0 < 256) → (eqb m n ≡ true → x ≡ y) × (x ≡ y → eqb m n ≡ true)
  same_ids la lb ba bb = (
    λ t. let e : m ≡ n = eqb-true m n t in
        let p : a ≡ b = sym (le_bytes_8 a m la ba em) ∙ ap (to_le_bytes w64) e ∙ le_bytes_8 b n lb bb en in
        sym (front_of x lx) ∙ ap (take 6) (sym ea ∙ p ∙ eb) ∙ front_of y ly,
    λ e. eq-eqb m n (em ∙ ap (from_le_bytes w64) (ea ∙ ap (fit 8) e ∙ sym eb) ∙ sym en),
  )
