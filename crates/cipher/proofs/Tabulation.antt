-- The laws of `tab` (specs/Bytes). Assumes nothing.
use mathlib.Core.Path.{◌≡◌, refl, ap}
use mathlib.Core.List.{List, [], ◌∷◌}
use Prim.Native.Nat.{ℕ, zero, suc, ◌<◌}
use native.Mathlib.Nat.{le_of_suc-le-suc, not-suc-le-zero}
use native.Mathlib.Omega.{arith}
use lib.ListN.{length, get_or}
use Rattle.cipher.specs.Bytes.{tab}

pub length_tab : (n : ℕ) (f : ℕ → ℕ) → length (tab n f) ≡ n
unfolding tab
length_tab zero f = refl
length_tab (suc n) f = ap suc (length_tab n (λ i. f (suc i)))

pub get_or_tab : (n : ℕ) (f : ℕ → ℕ) (i : ℕ) → i < n → get_or (tab n f) i 0 ≡ f i
unfolding tab
get_or_tab zero f i h = absurd (not-suc-le-zero h)
get_or_tab (suc n) f zero h = refl
get_or_tab (suc n) f (suc i) h = get_or_tab n (λ j. f (suc j)) i (le_of_suc-le-suc h)

-- a list of n numbers, with each of them written out
pub listed : (n : ℕ) (s : List ℕ) → length s ≡ n → s ≡ tab n (λ i. get_or s i 0)
unfolding tab
listed zero [] h = refl
listed zero (x ∷ s) h = absurd (omega arith)
listed (suc n) [] h = absurd (omega arith)
listed (suc n) (x ∷ s) h = ap (λ (t : List ℕ). x ∷ t) (listed n s (omega arith))
