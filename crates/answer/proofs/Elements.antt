-- A list with some of its elements written out, over their number. Assumes nothing.
use mathlib.Core.Path.{◌≡◌, ap, ◌∙◌}
use mathlib.Core.List.{List, [], ◌∷◌, ◌++◌}
use Prim.Native.Nat.{ℕ, zero, suc, ◌+◌, ◌≤◌}
use native.Mathlib.Omega.{arith}
use lib.ListN.{length, drop, get_or}
use lib.Seq.{drop-cons}

-- n elements, from place k on
unfoldable pub elements : ℕ → ℕ → List ℕ → List ℕ
elements k zero s = []
elements k (suc n) s = get_or s k 0 ∷ elements (suc k) n s

pub written_out : (n k : ℕ) (s : List ℕ) → k + n ≤ length s → drop k s ≡ elements k n s ++ drop (k + n) s
unfolding elements
written_out zero k s h = let z : k + 0 ≡ k = omega arith in rw z
written_out (suc n) k s h =
    let e : suc k + n ≡ k + suc n = omega arith in
    drop-cons s k 0 (omega arith)
    ∙ ap (λ (t : List ℕ). get_or s k 0 ∷ t) (written_out n (suc k) s (omega arith) ∙ ap (λ (j : ℕ). elements (suc k) n s ++ drop j s) e)
