-- The entries of a key list: the search for a key, for an unknown algorithm and for a key that stands twice. Assumes nothing.
use mathlib.Core.Path.{◌≡◌, refl, sym, ap, ap₂, ◌∙◌}
use mathlib.Core.Bool.{Bool, true, false, ◌||◌}
use mathlib.Core.List.{List, [], ◌∷◌, ◌++◌, map}
use Prim.Native.Nat.{ℕ, zero, suc, ◌+◌, ◌*◌, ◌/◌, ◌%◌, ◌≤◌, ◌<◌}
use native.Mathlib.Omega.{arith}
use borrow.Author.Tests.{lt-ltb, le-ltb}
use lib.Dec.{lit≤, eqb, ltb}
use lib.ListN.{length, take, drop, get_or, length-append, drop_of_length-le}
use lib.Seq.{take-take, length-take-le}
use Rattle.std.proofs.lemmas.List.{at_drop_more, length-map, length-drop, drop-take, take-append-le, drop-append-le, nil_from_length}
use Rattle.std.specs.List.{list_any}
use Rattle.std.specs.Simd.{first_chunks}
use Rattle.answer.specs.Number.{number_of}
use Rattle.answer.specs.Outcome.{choose}
use Rattle.answer.specs.Tests.{isnt, either}
use Rattle.session.specs.Entries.{Entry, entry_of, first_entries, entries, is_for, place, has, looked_at, unknown_algorithm, twice}
use Rattle.session.proofs.Places.{has_next, Passed, passed_met, passed_next, passed_all}

pub length_first : (n : ℕ) (l : List ℕ) → length (first_entries n l) ≡ n
unfolding first_entries
length_first zero l = refl
length_first (suc n) l = ap suc (length_first n (drop 19 l))

pub length_entries : (l : List ℕ) → length (entries l) ≡ length l / 19
unfolding entries
length_entries l = length_first (length l / 19) l

-- ---- entries of 19 bytes

entry_front : (l : List ℕ) → entry_of (take 19 l) ≡ entry_of l
unfolding entry_of
entry_front [] = refl
entry_front (x ∷ []) = refl
entry_front (x ∷ y ∷ []) = refl
entry_front (x ∷ y ∷ z ∷ l) = ap (λ (k : List ℕ). record { node = x + y * 256; algorithm = z; key = k }) (take-take 16 16 l (lit≤ tt))

-- `as_chunks` gives the entries
pub chunks_entries : (l : List ℕ) → map entry_of (first_chunks 19 (length l / 19) l) ≡ entries l
unfolding entries first_entries
chunks_entries l = go (length l / 19) l
  where
    go : (n : ℕ) (m : List ℕ) → map entry_of (first_chunks 19 n m) ≡ first_entries n m
    go zero m = refl
    go (suc n) m = ap₂ ◌∷◌ (entry_front m) (go n (drop 19 m))

-- n entries, and k more behind them
first_joined : (n k : ℕ) (l more : List ℕ) → length l ≡ n * 19 → first_entries (n + k) (l ++ more) ≡ first_entries n l ++ first_entries k more
unfolding first_entries
first_joined zero k l more h = let z : 0 + k ≡ k = omega arith in rw (nil_from_length l h, z) refl
first_joined (suc n) k l more h =
    let c : suc n + k ≡ suc (n + k) = omega arith in
    rw (c, drop-append-le 19 l more (omega (arith, h)))
    (ap₂ ◌∷◌ (sym (entry_front (l ++ more)) ∙ ap entry_of (take-append-le 19 l more (omega (arith, h))) ∙ entry_front l)
    (first_joined n k (drop 19 l) more (omega (arith, h, length-drop 19 l))))

-- the first n of k entries
first_front : (n k : ℕ) (l : List ℕ) → n ≤ k → first_entries n (take (n * 19) l) ≡ take n (first_entries k l)
unfolding first_entries
first_front zero k l h = refl
first_front (suc n) zero l h = absurd (omega (arith, h))
first_front (suc n) (suc k) l h =
    let m : suc n * 19 ≡ 19 + n * 19 = omega arith in
    rw (m, drop-take 19 (n * 19) l)
    (ap₂ ◌∷◌ (sym (entry_front (take (19 + n * 19) l)) ∙ ap entry_of (take-take 19 (19 + n * 19) l (omega arith)) ∙ entry_front l) (first_front n k (drop 19 l) (omega (arith, h))))

-- the first n entries of a list, and others behind them, in bytes
pub entries_front : (n : ℕ) (l more : List ℕ) → n ≤ length l / 19 → length more % 19 ≡ 0 → entries (take (n * 19) l ++ more) ≡ take n (entries l) ++ entries more
unfolding entries
entries_front n l more h whole =
    let f : length (take (n * 19) l) ≡ n * 19 = length-take-le (n * 19) l (omega (arith, h)) in
    let k : length (take (n * 19) l ++ more) / 19 ≡ n + length more / 19 = omega (arith, length-append (take (n * 19) l) more, f) in
    rw k (first_joined n (length more / 19) (take (n * 19) l) more f ∙ ap (λ (es : List Entry). es ++ first_entries (length more / 19) more) (first_front n (length l / 19) l h))

-- how many there are
pub length_chunks : (ls : List (List ℕ)) (l : List ℕ) → map entry_of ls ≡ entries l → length ls ≡ length l / 19
length_chunks ls l e = sym (length-map ls entry_of) ∙ ap length e ∙ length_entries l

-- ---- the search for a key

either_or : (a b : Bool) → either a b ≡ (a || b)
unfolding either
either_or true b = refl
either_or false b = refl

module _ (node algorithm : ℕ) where
  abbrev test : List ℕ → Bool
  test l = is_for (entry_of l) node algorithm

  has_any : (ls : List (List ℕ)) → has (map entry_of ls) node algorithm ≡ list_any test ls
  unfolding has place
  has_any [] = refl
  has_any (l ∷ ls) = has_next node algorithm (entry_of l) (map entry_of ls) ∙ either_or (test l) (has (map entry_of ls) node algorithm) ∙ ap (λ (t : Bool). test l || t) (has_any ls)

  -- a search of the entries ls that has passed n of them, the first i, where t says whether the next is the one
  module _ (ls : List (List ℕ)) (n i : ℕ) (p : Passed node algorithm (map entry_of ls) n (map entry_of (drop i ls))) where
    module _ (h : i < length ls) (t : Bool) (is : t ≡ test (get_or ls i [])) where
      next_up : Passed node algorithm (map entry_of ls) n (entry_of (get_or ls i []) ∷ map entry_of (drop (i + 1) ls))
      next_up = rw (at_drop_more (map entry_of) ls i [] h) at p

      pub search_ends : t ≡ true → (true ≡ has (map entry_of ls) node algorithm) × (n + 1 ≡ looked_at (map entry_of ls) node algorithm)
      search_ends y = passed_met node algorithm _ _ _ _ next_up (sym is ∙ y)

      pub search_goes_on : t ≡ false → Passed node algorithm (map entry_of ls) (n + 1) (map entry_of (drop (i + 1) ls))
      search_goes_on y = passed_next node algorithm _ _ _ _ next_up (sym is ∙ y)

    pub search_fails : length ls ≤ i → (false ≡ has (map entry_of ls) node algorithm) × (n ≡ looked_at (map entry_of ls) node algorithm)
    search_fails h = passed_all node algorithm _ _ (rw (drop_of_length-le ls h) at p)

-- ---- whether there is a key

place_within : (es : List Entry) (node algorithm : ℕ) → place es node algorithm ≤ length es
unfolding place choose
place_within [] node algorithm = omega arith
place_within (e ∷ es) node algorithm = go (is_for e node algorithm) (place_within es node algorithm)
  where
    go : (b : Bool) → place es node algorithm ≤ length es → choose b 0 (suc (place es node algorithm)) ≤ length (e ∷ es)
    go true h = omega arith
    go false h = omega arith

-- p is the place of a key among the entries of a list
module _ (keys : List ℕ) (node algorithm p : ℕ) (e : p ≡ place (entries keys) node algorithm) where
  -- there is a key if p is below the number of entries
  pub has_is : ltb p (length keys / 19) ≡ has (entries keys) node algorithm
  unfolding has
  has_is = rw (e, length_entries keys)

  -- there is none if p is their number
  pub has_none : p ≡ length keys / 19 → has (entries keys) node algorithm ≡ false
  has_none h = sym has_is ∙ le-ltb p (length keys / 19) (omega arith)

  -- there is one if p is not their number, and then p is below it
  pub has_one : (p ≡ length keys / 19 → ⊥) → (p < length keys / 19) × (has (entries keys) node algorithm ≡ true)
  has_one h =
      let w : p ≤ length keys / 19 = rw (e, ← length_entries keys) (place_within (entries keys) node algorithm) in
      let l : p < length keys / 19 = omega arith in
      (l, sym has_is ∙ lt-ltb p (length keys / 19) l)

-- ---- an unknown algorithm

pub unknown_any : (ls : List (List ℕ))
    → unknown_algorithm (map entry_of ls) ≡ list_any (λ l. isnt (either (eqb (entry_of l).algorithm 1) (eqb (entry_of l).algorithm 2))) ls
unfolding unknown_algorithm
unknown_any [] = refl
unknown_any (l ∷ ls) =
    let t : Bool = isnt (either (eqb (entry_of l).algorithm 1) (eqb (entry_of l).algorithm 2)) in
    either_or t (unknown_algorithm (map entry_of ls)) ∙ ap (λ (u : Bool). t || u) (unknown_any ls)

-- ---- a key that stands twice

-- t says whether what follows the first entry l has another of its node and algorithm
module _ (all : List (List ℕ)) (l : List ℕ) (ls : List (List ℕ)) (first : all ≡ l ∷ ls) (node : ℕ) (n : node ≡ number_of l) (t : Bool) (is : t ≡ list_any (test node (get_or l 2 0)) ls) where
  twice_by : twice (map entry_of all) ≡ either t (twice (map entry_of ls))
  unfolding twice entry_of
  twice_by = rw (first, is, n, has_any (number_of l) (get_or l 2 0) ls)

  pub twice_found : t ≡ true → true ≡ twice (map entry_of all)
  unfolding either
  twice_found h = sym (rw h at twice_by)

  pub twice_passed : t ≡ false → twice (map entry_of ls) ≡ twice (map entry_of all)
  unfolding either
  twice_passed h = sym (rw h at twice_by)

pub twice_none : (ls : List (List ℕ)) → length ls ≡ 0 → false ≡ twice (map entry_of ls)
unfolding twice
twice_none [] h = refl
twice_none (l ∷ ls) h = absurd (omega (arith, h))
