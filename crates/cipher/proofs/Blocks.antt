-- Exclusive or of blocks by a loop, for any width. Assumes nothing.
use mathlib.Core.Path.{◌≡◌, sym, ap, ◌∙◌}
use mathlib.Core.List.{List, [], ◌++◌, append-nil, append_assoc}
use mathlib.Core.Logic.{⊎_elim}
use Prim.Native.Nat.{ℕ, ◌+◌, ◌-◌, ◌≤◌, ◌<◌}
use native.Mathlib.Nat.{le_refl}
use native.Mathlib.Omega.{arith}
use lib.Bits.{bit_xor}
use lib.ListN.{length, take, drop, set, get_or, length-drop, drop_of_length-le}
use lib.Seq.{drop-length, take_all, drop-drop}
use Rattle.cipher.specs.Bytes.{◌⊕◌}
use Rattle.cipher.proofs.Xor.{⊕-take, length-⊕, length-⊕-r, length-⊕-shorter, get_or-⊕}
use Rattle.cipher.proofs.Numbers.{le_or_lt}
use Rattle.cipher.proofs.Filling.{Filled, fill_step, fill_ahead}

pub xor_turn : (a b : List ℕ) {d₀ d : List ℕ} {i : ℕ} → Filled (a ⊕ b) d₀ d i → i < length (a ⊕ b)
    → Filled (a ⊕ b) d₀ (set d i (bit_xor (get_or a i 0) (get_or b i 0))) (i + 1)
xor_turn a b {d₀} {d} {i} r h = fill_step r h _ (sym (get_or-⊕ a b i (length-⊕-shorter a b i h).0 (length-⊕-shorter a b i h).1))

-- in place: d₀ is a
pub xor_turn_in : (a b : List ℕ) {d : List ℕ} {i : ℕ} → Filled (a ⊕ b) a d i → i < length (a ⊕ b)
    → Filled (a ⊕ b) a (set d i (bit_xor (get_or d i 0) (get_or b i 0))) (i + 1)
xor_turn_in a b {d} {i} r h = rw (fill_ahead r) (xor_turn a b r h)

-- past the shorter of the two, a is as it was
pub drop_xored : (a b : List ℕ) (n : ℕ) → length b ≡ n → (a ⊕ b) ++ drop (length (a ⊕ b)) a ≡ (a ⊕ b) ++ drop n a
drop_xored a b n e =
    ap (λ (l : List ℕ). (a ⊕ b) ++ l)
    (⊎_elim
    (λ (h : length a ≤ n). let k : length a ≤ length b = omega arith in rw (length-⊕ a b k, drop-length a, drop_of_length-le a h))
    (λ (h : n < length a). let k : length b ≤ length a = omega arith in rw (length-⊕-r a b k, e))
    (le_or_lt (length a) n))

-- a block b was added to the tail of s from `at` on, as a slice of its own, and the slice has come back
pub added : (s b last : List ℕ) (at n : ℕ) → length b ≡ n
    → last ≡ (take (length s - at) (drop at s) ⊕ b) ++ drop n (take (length s - at) (drop at s))
    → take at s ++ (last ++ drop (length s - at) (drop at s)) ≡ take at s ++ (take n (drop at s) ⊕ b) ++ drop (at + n) s
added s b last at n l e =
    let k : length (drop at s) ≤ length s - at = rw length-drop (le_refl _) in
    let t : take (length s - at) (drop at s) ≡ drop at s = take_all (length s - at) (drop at s) k in
    let d : drop (length s - at) (drop at s) ≡ [] = drop_of_length-le (drop at s) k in
    let x : drop at s ⊕ b ≡ take n (drop at s) ⊕ b = ⊕-take (drop at s) b ∙ rw l in
    rw (e, d, t, append-nil, x, drop-drop, append_assoc)
