-- Copies into and out of a part of a list. Assumes nothing.
use mathlib.Core.Path.{◌≡◌, sym, ◌∙◌}
use mathlib.Core.List.{List, ◌++◌, append_assoc, append-nil}
use mathlib.Core.Logic.{⊎_elim}
use Prim.Native.Nat.{ℕ, ◌+◌, ◌-◌, ◌≤◌, ◌<◌, min}
use native.Mathlib.Omega.{arith}
use lib.ListN.{length, take, drop, length-append, length-take, length-drop, drop_of_length-le}
use lib.Seq.{take_at, drop_at, take_all, drop-length, drop-drop, length-take-le}
use Rattle.cipher.proofs.Numbers.{le_or_lt}

-- past the shorter of the two, the destination is as it was
pub drop_copied : (src d : List ℕ) → drop (length (take (length d) src)) d ≡ drop (length src) d
drop_copied src d =
    ⊎_elim
    (λ (h : length src ≤ length d). rw (take_all (length d) src h))
    (λ (h : length d < length src). let k : length d ≤ length src = omega arith in rw (length-take-le (length d) src k, drop_of_length-le d k, drop-length))
    (le_or_lt (length src) (length d))

-- a copy that fills the whole destination leaves the source
pub copied : (p d b : List ℕ) → b ≡ take (length d) p ++ drop (length p) d → length d ≡ length p → b ≡ p
copied p d b e h =
    let k : length d ≤ length p = omega arith in
    let l : length p ≤ length d = omega arith in
    e ∙ rw (drop_of_length-le d k, take_all (length d) p l) (append-nil p)

pub length_part : (s : List ℕ) (at w : ℕ) → at + w ≤ length s → length (take w (drop at s)) ≡ w
length_part s at w h = length-take-le w (drop at s) (rw length-drop (omega arith))

-- a part that was lent has come back as b
pub put_back : (s last b : List ℕ) (a e : ℕ) → a ≤ e → last ≡ b → take a s ++ (last ++ drop (e - a) (drop a s)) ≡ take a s ++ b ++ drop e s
put_back s last b a e h q =
    let k : a + (e - a) ≡ e = omega arith in
    rw (q, drop-drop, k, append_assoc)

-- b in the place of the w bytes at `at`, or of what there is of them
module _ (s b : List ℕ) (at w : ℕ) (start : at ≤ length s) (long : length b ≡ length (take w (drop at s))) where
  pub length_put : length (take at s ++ b ++ drop (at + w) s) ≡ length s
  length_put = simp (length-append, length-drop, length-take-le at s start, long, length-take) (omega arith)

  length_front : length (take at s ++ b) ≡ at + min w (length s - at)
  length_front = simp (length-append, length-take-le at s start, long, length-take, length-drop)

  pub take_put : take (at + w) (take at s ++ b ++ drop (at + w) s) ≡ take at s ++ b
  take_put =
      ⊎_elim
      (λ (h : at + w ≤ length s). take_at (take at s ++ b) (drop (at + w) s) (at + w) (length_front ∙ omega arith))
      (λ (h : length s < at + w).
      let k : length s ≤ at + w = omega arith in
      let l : length (take at s ++ b) ≤ at + w = rw length_front (omega arith) in
      rw (drop_of_length-le s k) (rw append-nil (take_all (at + w) (take at s ++ b) l)))
      (le_or_lt (at + w) (length s))

  pub drop_put : drop (at + w) (take at s ++ b ++ drop (at + w) s) ≡ drop (at + w) s
  drop_put =
      ⊎_elim
      (λ (h : at + w ≤ length s). drop_at (take at s ++ b) (drop (at + w) s) (at + w) (length_front ∙ omega arith))
      (λ (h : length s < at + w).
      let k : length s ≤ at + w = omega arith in
      let l : length (take at s ++ b ++ drop (at + w) s) ≤ at + w = rw length_put k in
      drop_of_length-le (take at s ++ b ++ drop (at + w) s) l ∙ sym (drop_of_length-le s k))
      (le_or_lt (at + w) (length s))

-- the part of w bytes at `at`, as a slice from `at` to `at + w` has it
pub part_of : (s : List ℕ) (at w : ℕ) → take (at + w - at) (drop at s) ≡ take w (drop at s)
part_of s at w = let k : at + w - at ≡ w = omega arith in rw k

-- that part was copied to the whole of d, which was of w bytes
pub loaded : (s : List ℕ) (at w : ℕ) → at + w ≤ length s → (d b : List ℕ)
    → b ≡ take (length d) (take (at + w - at) (drop at s)) ++ drop (length (take (at + w - at) (drop at s))) d → length d ≡ w → b ≡ take w (drop at s)
loaded s at w h d b e l =
    let p : List ℕ = take w (drop at s) in
    let n : length p ≡ w = length_part s at w h in
    copied p d b (rw (part_of s at w) at e) (l ∙ sym n)

-- b was copied to that part
pub stored : (s : List ℕ) (at w : ℕ) → at + w ≤ length s → (b last : List ℕ)
    → last ≡ take (length (take (at + w - at) (drop at s))) b ++ drop (length b) (take (at + w - at) (drop at s)) → length b ≡ w
    → take at s ++ (last ++ drop (at + w - at) (drop at s)) ≡ take at s ++ b ++ drop (at + w) s
stored s at w h b last e l =
    let p : List ℕ = take w (drop at s) in
    let n : length p ≡ w = length_part s at w h in
    let k : at ≤ at + w = omega arith in
    put_back s last b at (at + w) k (copied b p last (rw (part_of s at w) at e) (n ∙ sym l))
