-- The search for a node in a session's list. Assumes nothing.
use mathlib.Core.Path.{◌≡◌, refl, sym, ap, ap₂, ◌∙◌}
use mathlib.Core.Bool.{Bool, true, false, cond, not}
use mathlib.Core.List.{List, [], ◌∷◌}
use mathlib.Core.Logic.{⊎_elim}
use Prim.Native.Nat.{ℕ, zero, suc, ◌+◌, ◌*◌, ◌/◌, ◌≤◌, ◌<◌, min}
use native.Mathlib.Nat.{add-zero, min-eq_left, min-eq_right}
use native.Mathlib.Omega.{arith}
use borrow.Author.Tests.{lt-ltb, le-ltb, ltb-true, ltb-false}
use lib.Dec.{eqb, ltb}
use lib.ListN.{length, take, drop, get_or}
use lib.Seq.{get_or-drop, length-take-le}
use Rattle.std.specs.Prelude.{Option, Some, None, MatchOption}
use Rattle.std.specs.List.{position_or_len, position}
use Rattle.std.specs.Simd.{first_chunks}
use Rattle.cipher.proofs.Numbers.{le_or_lt}
use Rattle.answer.specs.Number.{number_of}
use Rattle.answer.specs.Outcome.{choose}
use Rattle.answer.proofs.Rows.{choose_most}
use Rattle.session.proofs.NodeLists.{length_first_nodes}
use Rattle.session.specs.Entries.{first_nodes, nodes}
use Rattle.session.specs.Session.{first_place, index_in, listed_count}

-- the number of the two bytes at a place
pub number_at : (l : List ℕ) (at r : ℕ) → r ≡ get_or l at 0 + get_or l (at + 1) 0 * 256 → r ≡ number_of (drop at l)
number_at l at r e =
    e ∙ sym (ap₂ (λ (x y : ℕ). x + y * 256) (get_or-drop at l 0 0 ∙ ap (λ (k : ℕ). get_or l k 0) (add-zero at)) (get_or-drop at l 1 0))

-- ---- the same search, over the pairs of bytes

same_two : (l : List ℕ) → number_of l ≡ number_of (take 2 l)
same_two [] = refl
same_two (x ∷ []) = refl
same_two (x ∷ y ∷ l) = refl

by_test : (b : Bool) (p : ℕ) → choose b 0 (suc p) ≡ cond (not b) (1 + p) 0
unfolding choose
by_test true p = refl
by_test false p = omega arith

module _ (node : ℕ) where
  abbrev test : List ℕ → Bool
  test b = eqb (number_of b) node

  first_is : (n : ℕ) (l : List ℕ) → first_place (first_nodes n l) node ≡ position_or_len test (first_chunks 2 n l)
  unfolding first_nodes first_place
  first_is zero l = refl
  first_is (suc n) l =
      ap (λ (k : ℕ). choose (eqb k node) 0 (suc (first_place (first_nodes n (drop 2 l)) node))) (same_two l)
      ∙ ap (λ (k : ℕ). choose (eqb (number_of (take 2 l)) node) 0 (suc k)) (first_is n (drop 2 l))
      ∙ by_test (eqb (number_of (take 2 l)) node) _

  how_many : (n : ℕ) (l : List ℕ) → length (first_nodes n l) ≡ length (first_chunks 2 n l)
  unfolding first_nodes
  how_many zero l = refl
  how_many (suc n) l = ap suc (how_many n (drop 2 l))

  first_most : (ns : List ℕ) → first_place ns node ≤ length ns
  unfolding first_place
  first_most [] = omega arith
  first_most (n ∷ ns) = let h = first_most ns in choose_most (eqb n node) 0 (suc (first_place ns node)) (suc (length ns)) (omega arith) (omega arith)

  -- the place that was found among n pairs, or none
  found_or_none : (b : Bool) (p n : ℕ) → ltb p n ≡ b → p ≤ n → MatchOption (cond b (Some p) None) (p ≡ n) (λ k. (k ≡ p) × (k < n))
  found_or_none true p n e h = let l = ltb-true p n e in (refl, l)
  found_or_none false p n e h = let l = ltb-false p n e in omega arith

  pub first_place_lem : (l : List ℕ) (r : Option ℕ) → r ≡ position test (first_chunks 2 (length l / 2) l)
      → MatchOption r (first_place (nodes l) node ≡ length (nodes l)) (λ k. (k ≡ first_place (nodes l) node) × (k < length (nodes l)))
  unfolding nodes
  first_place_lem l r e =
      let n : ℕ = length l / 2 in
      let h : first_place (first_nodes n l) node ≤ length (first_nodes n l) = first_most (first_nodes n l) in
      rw (e, ← first_is n l, ← how_many n l) (found_or_none (ltb (first_place (first_nodes n l) node) (length (first_nodes n l))) _ _ refl h)

-- ---- how many nodes are listed

pub listed_is : (n k : ℕ) → k ≡ min n 64 → k ≡ listed_count n
unfolding listed_count choose
listed_is n k e =
    ⊎_elim
    (λ (h : 64 ≤ n). e ∙ min-eq_right h ∙ rw (le-ltb n 64 h))
    (λ (h : n < 64). let m : n ≤ 64 = omega arith in e ∙ min-eq_left m ∙ rw (lt-ltb n 64 h))
    (le_or_lt 64 n)

pub listed_low : (n : ℕ) → listed_count n ≤ 64
unfolding listed_count choose
listed_low n =
    ⊎_elim
    (λ (h : 64 ≤ n). rw (le-ltb n 64 h) (omega arith))
    (λ (h : n < 64). rw (lt-ltb n 64 h) (omega arith))
    (le_or_lt 64 n)

-- ---- the index: the search goes through the whole list, and count says how many nodes of it are listed

-- the first nodes of a list are those of its front
front_nodes : (k : ℕ) (l : List ℕ) → k * 2 ≤ length l → first_nodes k (take (k * 2) l) ≡ first_nodes k l
unfolding first_nodes
front_nodes zero l h = refl
front_nodes (suc k) [] h = absurd (omega (arith, h))
front_nodes (suc k) (x ∷ []) h = absurd (omega (arith, h))
front_nodes (suc k) (x ∷ y ∷ l) h =
    let e : suc k * 2 ≡ suc (suc (k * 2)) = omega arith in
    rw e (ap (◌∷◌ (x + y * 256)) (front_nodes k l (omega (arith, h))))

step_among : (b : Bool) (p q k : ℕ) → (q < k → p ≡ q) → choose b 0 (suc q) < suc k → choose b 0 (suc p) ≡ choose b 0 (suc q)
unfolding choose
step_among true p q k f h = refl
step_among false p q k f h = ap suc (f (omega (arith, h)))

step_beyond : (b : Bool) (p q k : ℕ) → (k ≤ q → p ≡ k) → suc k ≤ choose b 0 (suc q) → choose b 0 (suc p) ≡ suc k
unfolding choose
step_beyond true p q k f h = absurd (omega (arith, h))
step_beyond false p q k f h = ap suc (f (omega (arith, h)))

-- a first place among n nodes that is one of the first k is their first place; another is none of theirs
place_among : (n k : ℕ) (l : List ℕ) (node : ℕ) → k ≤ n → first_place (first_nodes n l) node < k → first_place (first_nodes k l) node ≡ first_place (first_nodes n l) node
unfolding first_nodes first_place
place_among n zero l node m h = absurd (omega (arith, h))
place_among zero (suc k) l node m h = absurd (omega (arith, m))
place_among (suc n) (suc k) l node m h = step_among (eqb (number_of l) node) _ _ k (place_among n k (drop 2 l) node (omega (arith, m))) h

place_beyond : (n k : ℕ) (l : List ℕ) (node : ℕ) → k ≤ n → k ≤ first_place (first_nodes n l) node → first_place (first_nodes k l) node ≡ k
unfolding first_nodes first_place
place_beyond n zero l node m h = refl
place_beyond zero (suc k) l node m h = absurd (omega (arith, m))
place_beyond (suc n) (suc k) l node m h = step_beyond (eqb (number_of l) node) _ _ k (place_beyond n k (drop 2 l) node (omega (arith, m))) h

module _ (l : List ℕ) (count node r : ℕ) (is : r ≡ first_place (nodes l) node) (long : count * 2 ≤ length l) where
  listed : nodes (take (count * 2) l) ≡ first_nodes count l
  unfolding nodes
  listed =
      let e : length (take (count * 2) l) ≡ count * 2 = length-take-le (count * 2) l long in
      let n : length (take (count * 2) l) / 2 ≡ count = omega (arith, e) in
      ap (λ (k : ℕ). first_nodes k (take (count * 2) l)) n ∙ front_nodes count l long

  pub index_found : r < count → r ≡ index_in (nodes (take (count * 2) l)) node
  unfolding index_in choose nodes
  index_found h =
      let p : first_place (first_nodes count l) node ≡ first_place (first_nodes (length l / 2) l) node =
      place_among (length l / 2) count l node (omega (arith, long)) (omega (arith, is, h)) in
      let k : first_place (first_nodes count l) node < length (first_nodes count l) = rw (length_first_nodes count l) (omega (arith, is, p, h)) in
      is ∙ rw (listed, lt-ltb _ _ k) (sym p)

  pub index_missing : count ≤ r → 64 ≡ index_in (nodes (take (count * 2) l)) node
  unfolding index_in choose nodes
  index_missing h =
      let p : first_place (first_nodes count l) node ≡ count = place_beyond (length l / 2) count l node (omega (arith, long)) (omega (arith, is, h)) in
      let k : length (first_nodes count l) ≤ first_place (first_nodes count l) node = rw (length_first_nodes count l) (omega (arith, p)) in
      rw (listed, le-ltb _ _ k)
