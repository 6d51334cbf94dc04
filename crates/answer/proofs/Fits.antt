-- The first n bytes of a string. Assumes nothing.
use mathlib.Core.Path.{◌≡◌, refl, ◌∙◌}
use mathlib.Core.List.{List, [], ◌∷◌, append-nil}
use Prim.Native.Nat.{ℕ, ◌≤◌}
use native.Mathlib.Omega.{arith}
use lib.ListN.{length, replicate, length-replicate, drop_of_length-le}
use lib.Seq.{take_all}
use Rattle.answer.specs.Fixed.{fit}
use Rattle.answer.specs.Number.{number_of}

-- a string of n bytes is its own
pub fit_exact : (n : ℕ) (s : List ℕ) → length s ≡ n → fit n s ≡ s
fit_exact n s h =
    let z : List ℕ = replicate n 0 in
    let m : length z ≡ n = length-replicate n 0 in
    let k : length s ≤ n = omega arith in
    let l : length z ≤ length s = omega arith in
    rw (take_all n s k, drop_of_length-le z l) (append-nil s)

-- a copy of s over n zeros
pub read : (n : ℕ) (s r : List ℕ) → r ≡ fit n s → (r ≡ fit n s) × (length s ≡ n → r ≡ s)
read n s r e = (e, λ h. e ∙ fit_exact n s h)

-- the number that starts a string goes by its first two bytes
pub number_fit : (s : List ℕ) → number_of (fit 2 s) ≡ number_of s
number_fit [] = refl
number_fit (x ∷ []) = refl
number_fit (x ∷ y ∷ s) = refl
