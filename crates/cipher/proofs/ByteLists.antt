-- Strings of bytes, and their parts: each entry stays below 256. Assumes nothing.
use mathlib.Core.Path.{◌≡◌, refl}
use mathlib.Core.List.{List, [], ◌∷◌, ◌++◌, map}
use Prim.Native.Nat.{ℕ, zero, suc, ◌+◌, ◌<◌}
use native.Mathlib.Omega.{arith}
use lib.Dec.{lit<}
use lib.ListN.{length, take, drop, replicate}
use lib.Seq.{get_or-drop}
use Rattle.cipher.specs.Bytes.{Bytes, tab}

pub Bytes-nil : Bytes []
Bytes-nil i = lit< tt

pub Bytes-cons : (x : ℕ) (s : List ℕ) → x < 256 → Bytes s → Bytes (x ∷ s)
Bytes-cons x s h b zero = h
Bytes-cons x s h b (suc i) = b i

pub Bytes-append : (s t : List ℕ) → Bytes s → Bytes t → Bytes (s ++ t)
Bytes-append [] t h k i = k i
Bytes-append (x ∷ s) t h k zero = h zero
Bytes-append (x ∷ s) t h k (suc i) = Bytes-append s t (λ j. h (suc j)) k i

pub Bytes-take : (n : ℕ) (s : List ℕ) → Bytes s → Bytes (take n s)
Bytes-take zero s h i = lit< tt
Bytes-take (suc n) [] h i = lit< tt
Bytes-take (suc n) (x ∷ s) h zero = h zero
Bytes-take (suc n) (x ∷ s) h (suc i) = Bytes-take n s (λ j. h (suc j)) i

pub Bytes-drop : (n : ℕ) (s : List ℕ) → Bytes s → Bytes (drop n s)
Bytes-drop n s h i = rw (get_or-drop n s i 0) (h (n + i))

pub Bytes-replicate : (n : ℕ) (x : ℕ) → x < 256 → Bytes (replicate n x)
Bytes-replicate zero x h i = lit< tt
Bytes-replicate (suc n) x h zero = h
Bytes-replicate (suc n) x h (suc i) = Bytes-replicate n x h i

pub Bytes-tab : (n : ℕ) (f : ℕ → ℕ) → ((i : ℕ) → f i < 256) → Bytes (tab n f)
unfolding tab
Bytes-tab zero f h i = lit< tt
Bytes-tab (suc n) f h zero = h 0
Bytes-tab (suc n) f h (suc i) = Bytes-tab n (λ j. f (suc j)) (λ j. h (suc j)) i

pub Bytes-map : (f : ℕ → ℕ) → ((x : ℕ) → f x < 256) → (s : List ℕ) → Bytes (map f s)
Bytes-map f h [] i = lit< tt
Bytes-map f h (x ∷ s) zero = h x
Bytes-map f h (x ∷ s) (suc i) = Bytes-map f h s i

pub empty : {A : Type 0} (l : List A) → length l ≡ 0 → [] ≡ l
empty [] h = refl
empty (x ∷ l) h = absurd (omega arith)

-- a block of w bytes
pub record Block (w : ℕ) (b : List ℕ) : Type 0 where
  pub long : length b ≡ w
  pub bytes : Bytes b
