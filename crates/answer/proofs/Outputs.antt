-- What an output holds after pieces were written one behind the other: `over` of all of them. Assumes nothing.
use mathlib.Core.Path.{◌≡◌, refl, sym, ap, ◌∙◌}
use mathlib.Core.List.{List, [], ◌∷◌, ◌++◌, append_assoc, append-nil}
use Prim.Native.Nat.{ℕ, ◌+◌, ◌-◌, ◌≤◌}
use native.Mathlib.Omega.{arith}
use lib.ListN.{length, take, drop, replicate, set, length-append, length-drop, length-replicate, take-append-drop, drop_of_length-le}
use lib.Seq.{take_at, drop_at, take_all, drop-drop, length-take-le, drop-append-le, drop-append-add}
use Rattle.answer.specs.Outcome.{over}

pub length_over : (b o : List ℕ) → length b ≤ length o → length (over b o) ≡ length o
unfolding over
length_over b o h = length-append b (drop (length b) o) ∙ ap (λ (k : ℕ). length b + k) (length-drop (length b) o) ∙ omega arith

-- what was written over the front of a string that kept its length fits it
pub fits_front : (b o w : List ℕ) → w ≡ over b o → length w ≡ length o → length b ≤ length o
unfolding over
fits_front b o w e l =
    let q : length b + length (drop (length b) o) ≡ length o = sym (length-append b (drop (length b) o)) ∙ ap length (sym e) ∙ l in
    omega (arith, q)

-- an output is its own front, over itself
pub over_self : (o : List ℕ) (n : ℕ) → n ≤ length o → o ≡ over (take n o) o
unfolding over
over_self o n h = rw (length-take-le n o h) (sym (take-append-drop n o))

-- what is written over all that was written before
pub over_over : (a b o : List ℕ) → length a ≤ length b → over b (over a o) ≡ over b o
unfolding over
over_over a b o h =
    let m : ℕ = length b - length a in
    let e : length b ≡ length a + m = omega arith in
    ap (λ (l : List ℕ). b ++ l) (rw e (drop-append-add a (drop (length a) o) m ∙ drop-drop m (length a) o))

-- a copy over the front
pub copied_over : (b o s : List ℕ) → length b ≤ length o → s ≡ take (length o) b ++ drop (length b) o → s ≡ over b o
unfolding over
copied_over b o s h e = e ∙ rw (take_all (length o) b h)

-- as many bytes as the front has, put there
pub placed_over : (b o last : List ℕ) (n : ℕ) → length b ≡ n → last ≡ b → last ++ drop n o ≡ over b o
unfolding over
placed_over b o last n l e = rw (e, l)

-- the first two bytes, stored one by one
pub over_two : (o : List ℕ) (x y : ℕ) → 2 ≤ length o → set (set o 0 x) 1 y ≡ over (x ∷ y ∷ []) o
unfolding over
over_two [] x y h = absurd (omega arith)
over_two (p ∷ []) x y h = absurd (omega arith)
over_two (p ∷ q ∷ o) x y h = refl

-- b was written over o, and s is what stands there
module _ (b o s : List ℕ) (n : ℕ) (long : length b ≡ n) (e : s ≡ over b o) where
  pub front : take n s ≡ b
  unfolding over
  front = rw e (take_at b (drop (length b) o) n long)

  pub rest : drop n s ≡ drop n o
  unfolding over
  rest = rw e (drop_at b (drop (length b) o) n long ∙ ap (λ (k : ℕ). drop k o) long)

  -- the front was lent and came back as c
  pub replaced : (c : List ℕ) → length c ≡ n → c ++ drop n s ≡ over c o
  unfolding over
  replaced c h = ap (λ (l : List ℕ). c ++ l) (rest ∙ ap (λ (k : ℕ). drop k o) (sym h))

  -- the k bytes behind it were lent, and came back with p at their front
  module _ (p : List ℕ) (k : ℕ) (fits : length p ≤ length (take k (drop n s))) where
    pub behind : (last : List ℕ) → last ≡ p ++ drop (length p) (take k (drop n s)) → take n s ++ (last ++ drop k (drop n s)) ≡ over (b ++ p) o
    unfolding over
    behind last h =
        let x : List ℕ = drop n s in
        let t : drop (length p) (take k x) ++ drop k x ≡ drop (length p) x =
        sym (drop-append-le (length p) (take k x) (drop k x) fits) ∙ ap (drop (length p)) (take-append-drop k x) in
        let u : drop (length p) x ≡ drop (length (b ++ p)) o = ap (drop (length p)) rest ∙ drop-drop (length p) n o ∙ rw (length-append b p, long) in
        rw (h, front, append_assoc p (drop (length p) (take k x)) (drop k x), t, u) (sym (append_assoc b p _))

    -- by a copy
    pub copied_behind : (last : List ℕ) → last ≡ take (length (take k (drop n s))) p ++ drop (length p) (take k (drop n s)) → take n s ++ (last ++ drop k (drop n s)) ≡ over (b ++ p) o
    copied_behind last h = behind last (rw (take_all _ p fits) at h)

  -- by a fill
  pub filled_behind : (last : List ℕ) (v m k : ℕ) → length (take k (drop n s)) ≡ m → last ≡ replicate (length (take k (drop n s))) v → take n s ++ (last ++ drop k (drop n s)) ≡ over (b ++ replicate m v) o
  filled_behind last v m k h q =
      let l : length (replicate m v) ≡ m = length-replicate m v in
      let g : length (take k (drop n s)) ≤ length (replicate m v) = omega arith in
      behind (replicate m v) k (omega arith) last (q ∙ rw (h, drop_of_length-le (take k (drop n s)) g) (sym (append-nil (replicate m v))))
