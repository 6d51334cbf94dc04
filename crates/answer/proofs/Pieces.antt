-- Pieces of an output: one copied behind what was written, and the last one changed in place. Assumes nothing.
use mathlib.Core.Path.{◌≡◌, sym, ap, ap₂, ◌∙◌}
use mathlib.Core.List.{List, ◌++◌, append_assoc, append-nil}
use Prim.Native.Nat.{ℕ, ◌+◌, ◌≤◌, min}
use native.Mathlib.Nat.{min-le_right}
use native.Mathlib.Omega.{arith}
use borrow.Rule.Slice.PartMut.{same_len_mid}
use lib.ListN.{length, take, drop, length-append, length-take, drop_of_length-le}
use lib.Seq.{take_at, drop_at, take_all}
use Rattle.cipher.proofs.Copies.{length_part}
use Rattle.answer.specs.Outcome.{over}
use Rattle.answer.proofs.Outputs.{length_over, copied_behind}

-- a front of l is no longer than l
pub no_longer : (n m : ℕ) (l p : List ℕ) → p ≡ take n l → length l ≤ m → length p ≤ m
no_longer n m l p e h =
    let q : length p ≡ min n (length l) = ap length e ∙ length-take n l in
    omega (arith, min-le_right n (length l))

-- a part came back as b, as long as it was: what reached so far still does
pub reaches : (s b : List ℕ) (n k e : ℕ) → length b ≡ length (take k (drop n s)) → e ≤ length s → e ≤ length (take n s ++ (b ++ drop k (drop n s)))
reaches s b n k e h l = let q : length (take n s ++ (b ++ drop k (drop n s))) ≡ length s = same_len_mid n k s b h in omega arith

-- k bytes more are to follow b
module _ (b o s : List ℕ) (n k : ℕ) (long : length b ≡ n) (room : n + k ≤ length o) (e : s ≡ over b o) where
  pub length_next : length (take k (drop n s)) ≡ k
  length_next =
      let f : length b ≤ length o = omega arith in
      let l : length s ≡ length o = ap length e ∙ length_over b o f in
      length_part s n k (omega arith)

  -- p was copied there
  pub copied_next : (p last : List ℕ) → length p ≡ k → last ≡ take (length (take k (drop n s))) p ++ drop (length p) (take k (drop n s)) → take n s ++ (last ++ drop k (drop n s)) ≡ over (b ++ p) o
  copied_next p last l h = copied_behind b o s n long e p k (omega (arith, length_next)) last h

  -- p was put there
  pub placed_next : (p last : List ℕ) → length p ≡ k → last ≡ p → take n s ++ (last ++ drop k (drop n s)) ≡ over (b ++ p) o
  placed_next p last l h =
      let f : length p ≤ length (take k (drop n s)) = omega (arith, length_next) in
      let g : length (take k (drop n s)) ≤ length p = omega (arith, length_next) in
      copied_next p last l (h ∙ sym (rw (take_all (length (take k (drop n s))) p f, drop_of_length-le (take k (drop n s)) g) (append-nil p)))

-- b and then p, of k bytes, were written
module _ (b p o s : List ℕ) (n k : ℕ) (long : length b ≡ n) (wide : length p ≡ k) (e : s ≡ over (b ++ p) o) where
  before_piece : take n s ≡ b
  unfolding over
  before_piece = ap (take n) (e ∙ append_assoc b p (drop (length (b ++ p)) o)) ∙ take_at b (p ++ drop (length (b ++ p)) o) n long

  from_piece : drop n s ≡ p ++ drop (length (b ++ p)) o
  unfolding over
  from_piece = ap (drop n) (e ∙ append_assoc b p (drop (length (b ++ p)) o)) ∙ drop_at b (p ++ drop (length (b ++ p)) o) n long

  pub last_piece : take k (drop n s) ≡ p
  last_piece = ap (take k) from_piece ∙ take_at p (drop (length (b ++ p)) o) k wide

  -- p was lent and came back as q
  pub put_again : (q : List ℕ) → length q ≡ length (take k (drop n s)) → take n s ++ (q ++ drop k (drop n s)) ≡ over (b ++ q) o
  unfolding over
  put_again q h =
      let l : length q ≡ length p = h ∙ ap length last_piece in
      let m : length (b ++ p) ≡ length (b ++ q) = length-append b p ∙ ap (λ (j : ℕ). length b + j) (sym l) ∙ sym (length-append b q) in
      let r : drop k (drop n s) ≡ drop (length (b ++ q)) o = ap (drop k) from_piece ∙ drop_at p (drop (length (b ++ p)) o) k wide ∙ ap (λ (j : ℕ). drop j o) m in
      ap₂ (λ (x y : List ℕ). x ++ (q ++ y)) before_piece r ∙ sym (append_assoc b q (drop (length (b ++ q)) o))
