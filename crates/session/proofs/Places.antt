-- The search for a node and an algorithm among entries: which entry it meets, how many it looks at, and that no entry behind the one met plays a
-- part. Assumes nothing.
use mathlib.Core.Path.{◌≡◌, refl, sym, ap, ◌∙◌}
use mathlib.Core.Bool.{Bool, true, false}
use mathlib.Core.List.{List, [], ◌∷◌, ◌++◌}
use Prim.Native.Nat.{ℕ, zero, suc, ◌+◌, ◌≤◌, ◌<◌}
use native.Mathlib.Omega.{arith}
use borrow.Author.Tests.{eqb-true, lt-ltb, le-ltb, ltb-true, ltb-false}
use lib.Dec.{ltb}
use lib.ListN.{length, take}
use Rattle.answer.specs.Outcome.{choose}
use Rattle.answer.specs.Tests.{either}
use Rattle.answer.proofs.Equality.{both_true}
use Rattle.answer.proofs.Rows.{either_false, either_right}
use Rattle.session.specs.Entries.{Entry, is_for, place, has, looked_at, key_at, twice}

-- whether the entry at a place is for a node and an algorithm; behind the last entry there is none
unfoldable pub is_at : List Entry → ℕ → ℕ → ℕ → Bool
is_at [] i node algorithm = false
is_at (e ∷ es) zero node algorithm = is_for e node algorithm
is_at (e ∷ es) (suc i) node algorithm = is_at es i node algorithm

ltb_suc : (m n : ℕ) → ltb (suc m) (suc n) ≡ ltb m n
ltb_suc m n = go (ltb m n) refl
  where
    go : (t : Bool) → ltb m n ≡ t → ltb (suc m) (suc n) ≡ t
    go true e = let h : m < n = ltb-true m n e in lt-ltb (suc m) (suc n) (omega arith)
    go false e = let h : n ≤ m = ltb-false m n e in le-ltb (suc m) (suc n) (omega arith)

module _ (node algorithm : ℕ) where
  -- ---- one entry after another

  pub has_next : (e : Entry) (es : List Entry) → has (e ∷ es) node algorithm ≡ either (is_for e node algorithm) (has es node algorithm)
  unfolding has place choose either
  has_next e es = go (is_for e node algorithm)
    where
      go : (t : Bool) → ltb (choose t 0 (suc (place es node algorithm))) (suc (length es)) ≡ either t (ltb (place es node algorithm) (length es))
      go true = lt-ltb 0 (suc (length es)) (omega arith)
      go false = ltb_suc (place es node algorithm) (length es)

  -- a search that has met its entry looks at no other
  looks_next : (e : Entry) (es : List Entry) → looked_at (e ∷ es) node algorithm ≡ choose (is_for e node algorithm) 1 (suc (looked_at es node algorithm))
  unfolding looked_at place choose either
  looks_next e es = rw (has_next e es) (go (is_for e node algorithm) (has es node algorithm))
    where
      go : (t u : Bool) → choose (either t u) (suc (choose t 0 (suc (place es node algorithm)))) (suc (length es))
          ≡ choose t 1 (suc (choose u (suc (place es node algorithm)) (length es)))
      go true u = refl
      go false true = refl
      go false false = refl

  pub looks_one_by_one : (looked_at [] node algorithm ≡ 0)
      × ((e : Entry) (es : List Entry) → looked_at (e ∷ es) node algorithm ≡ choose (is_for e node algorithm) 1 (suc (looked_at es node algorithm)))
  unfolding looked_at has place choose
  looks_one_by_one = (refl, looks_next)

  -- ---- a search under way

  -- a search of es does as one of the rest, and looks at n entries more
  pub record Passed (es : List Entry) (n : ℕ) (rest : List Entry) : Type 0 where
    pub found : has es node algorithm ≡ has rest node algorithm
    pub looked : looked_at es node algorithm ≡ n + looked_at rest node algorithm

  module _ (es : List Entry) (n : ℕ) (e : Entry) (rest : List Entry) (p : Passed es n (e ∷ rest)) where
    pub passed_next : is_for e node algorithm ≡ false → Passed es (n + 1) rest
    unfolding either choose
    passed_next h =
        let l : looked_at (e ∷ rest) node algorithm ≡ suc (looked_at rest node algorithm) = rw h at (looks_next e rest) in
        record { found = p.found ∙ (rw h at (has_next e rest)); looked = omega (arith, p.looked, l) }

    pub passed_met : is_for e node algorithm ≡ true → (true ≡ has es node algorithm) × (n + 1 ≡ looked_at es node algorithm)
    unfolding either choose
    passed_met h =
        let l : looked_at (e ∷ rest) node algorithm ≡ 1 = rw h at (looks_next e rest) in
        (sym (p.found ∙ (rw h at (has_next e rest))), omega (arith, p.looked, l))

  pub passed_all : (es : List Entry) (n : ℕ) → Passed es n [] → (false ≡ has es node algorithm) × (n ≡ looked_at es node algorithm)
  unfolding has looked_at place choose
  passed_all es n p = (sym p.found, omega (arith, p.looked))

  -- ---- the entry that is met

  found_within : (es : List Entry) → has es node algorithm ≡ true → place es node algorithm < length es
  unfolding has
  found_within es h = ltb-true _ _ h

  found_is : (es : List Entry) → has es node algorithm ≡ true → is_at es (place es node algorithm) node algorithm ≡ true
  unfolding is_at place choose either
  found_is [] h = absurd (omega (arith, found_within [] h))
  found_is (e ∷ es) h = go (is_for e node algorithm) refl (sym (has_next e es) ∙ h) (found_is es)
    where
      go : (t : Bool) → is_for e node algorithm ≡ t → either t (has es node algorithm) ≡ true
          → (has es node algorithm ≡ true → is_at es (place es node algorithm) node algorithm ≡ true)
          → is_at (e ∷ es) (choose t 0 (suc (place es node algorithm))) node algorithm ≡ true
      go true q n later = q
      go false q n later = later n

  none_before : (es : List Entry) (i : ℕ) → i < place es node algorithm → is_at es i node algorithm ≡ false
  unfolding is_at place choose
  none_before [] i h = refl
  none_before (e ∷ es) i h = go (is_for e node algorithm) refl i h (none_before es)
    where
      go : (t : Bool) → is_for e node algorithm ≡ t → (j : ℕ) → j < choose t 0 (suc (place es node algorithm))
          → ((k : ℕ) → k < place es node algorithm → is_at es k node algorithm ≡ false) → is_at (e ∷ es) j node algorithm ≡ false
      go true q j l later = absurd (omega arith)
      go false q zero l later = q
      go false q (suc j) l later = later j (omega arith)

  some_at : (es : List Entry) (i : ℕ) → is_at es i node algorithm ≡ true → has es node algorithm ≡ true
  unfolding is_at either
  some_at [] i h = cc
  some_at (e ∷ es) zero h = rw h at (has_next e es)
  some_at (e ∷ es) (suc i) h = has_next e es ∙ rw (some_at es i h) (either_right (is_for e node algorithm))

  -- a search of es has met the first entry that is for them, and looked at it and at those before it
  pub record FoundAt (es : List Entry) : Type 0 where
    pub within : place es node algorithm < length es
    pub is : is_at es (place es node algorithm) node algorithm ≡ true
    pub first : (i : ℕ) → i < place es node algorithm → is_at es i node algorithm ≡ false
    pub looked : looked_at es node algorithm ≡ place es node algorithm + 1

  -- there is such an entry exactly if some place has one
  pub found_at : (es : List Entry) → (has es node algorithm ≡ true → FoundAt es) × ((i : ℕ) → is_at es i node algorithm ≡ true → has es node algorithm ≡ true)
  unfolding looked_at choose
  found_at es = (
    λ h. record {
      within = found_within es h;
      is = found_is es h;
      first = none_before es;
      looked = rw h (omega arith);
    },
    some_at es,
  )

  -- where there is none, no place has one, and all entries were looked at
  pub not_found : (es : List Entry) → has es node algorithm ≡ false → ((i : ℕ) → is_at es i node algorithm ≡ false) × (looked_at es node algorithm ≡ length es)
  unfolding looked_at choose
  not_found es h = (λ i. go i (is_at es i node algorithm) refl, rw h refl)
    where
      go : (i : ℕ) (t : Bool) → is_at es i node algorithm ≡ t → t ≡ false
      go i true q = sym (some_at es i q) ∙ h
      go i false q = refl

  pub looked_within : (es : List Entry) → looked_at es node algorithm ≤ length es
  looked_within es = go (has es node algorithm) refl
    where
      go : (t : Bool) → has es node algorithm ≡ t → looked_at es node algorithm ≤ length es
      go true q = let f = (found_at es).0 q in omega (arith, f.within, f.looked)
      go false q = let e = (not_found es q).1 in omega (arith, e)

  -- ---- the entries behind it

  -- a search of fs meets the entry at the place p, and finds the key that es has there
  abbrev Front : List Entry → List Entry → ℕ → Type 0
  Front es fs p = (has fs node algorithm ≡ true) × (place fs node algorithm ≡ p) × (key_at fs p ≡ key_at es p)

  front : (more es : List Entry) → has es node algorithm ≡ true → Front es (take (suc (place es node algorithm)) es ++ more) (place es node algorithm)
  unfolding place key_at choose either
  front more [] h = absurd (omega (arith, found_within [] h))
  front more (e ∷ es) h = go (is_for e node algorithm) refl (sym (has_next e es) ∙ h) (front more es)
    where
      go : (t : Bool) → is_for e node algorithm ≡ t → either t (has es node algorithm) ≡ true
          → (has es node algorithm ≡ true → Front es (take (suc (place es node algorithm)) es ++ more) (place es node algorithm))
          → Front (e ∷ es) (take (suc (choose t 0 (suc (place es node algorithm)))) (e ∷ es) ++ more) (choose t 0 (suc (place es node algorithm)))
      go true q n later = (rw q at (has_next e more), rw q refl, refl)
      go false q n later =
          let k = later n in
          ((rw q at (has_next e (take (suc (place es node algorithm)) es ++ more))) ∙ k.0, rw q (ap suc k.1), k.2)

  -- where there is such an entry, a search of the entries that were looked at, with any others behind them, finds the same
  pub record SameFound (es fs : List Entry) : Type 0 where
    pub there : has fs node algorithm ≡ true
    pub place_is : place fs node algorithm ≡ place es node algorithm
    pub looked : looked_at fs node algorithm ≡ looked_at es node algorithm
    pub key : key_at fs (place fs node algorithm) ≡ key_at es (place es node algorithm)

  pub search_by_front : (es : List Entry) → has es node algorithm ≡ true → (more : List Entry) → SameFound es (take (looked_at es node algorithm) es ++ more)
  search_by_front es h more =
      let f = (found_at es).0 h in
      let k = front more es h in
      let n : looked_at es node algorithm ≡ suc (place es node algorithm) = omega (arith, f.looked) in
      rw n (record {
        there = k.0;
        place_is = k.1;
        looked = rw (k.1) at ((found_at _).0 k.0).looked ∙ sym f.looked;
        key = rw k.1 k.2;
      })

  -- ---- lists in which no node and algorithm stands twice

  is_for_parts : (e : Entry) → is_for e node algorithm ≡ true → (e.node ≡ node) × (e.algorithm ≡ algorithm)
  unfolding is_for
  is_for_parts e h = let b = both_true _ _ h in (eqb-true _ _ b.0, eqb-true _ _ b.1)

-- whichever way one searches, one finds the same entry
pub single : (es : List Entry) → twice es ≡ false → (node algorithm i : ℕ) → is_at es i node algorithm ≡ true → i ≡ place es node algorithm
unfolding twice is_at place choose
single [] t node algorithm i h = cc
single (e ∷ es) t node algorithm i h = go (is_for e node algorithm) refl i h (single es others.1 node algorithm)
  where
    others : (has es e.node e.algorithm ≡ false) × (twice es ≡ false)
    others = either_false _ _ t

    go : (u : Bool) → is_for e node algorithm ≡ u → (j : ℕ) → is_at (e ∷ es) j node algorithm ≡ true
        → ((k : ℕ) → is_at es k node algorithm ≡ true → k ≡ place es node algorithm) → j ≡ choose u 0 (suc (place es node algorithm))
    go true q zero k later = refl
    go true q (suc j) k later =
        let s = is_for_parts node algorithm e q in
        let y : has es e.node e.algorithm ≡ true = rw (s.0, s.1) (some_at node algorithm es j k) in
        let n = others.0 in
        cc
    go false q zero k later = cc
    go false q (suc j) k later = ap suc (later j k)
