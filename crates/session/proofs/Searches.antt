-- The search of a key list as a call: which row decides, when an answer is that of the definition, and what the answer tells of the list's bytes.
-- Assumes nothing.
use mathlib.Core.Path.{◌≡◌, refl, sym, ap, ◌∙◌}
use mathlib.Core.Bool.{Bool, true, false}
use mathlib.Core.List.{List, ◌++◌}
use Prim.Native.Nat.{ℕ, ◌+◌, ◌-◌, ◌*◌, ◌/◌, ◌%◌, ◌≤◌, ◌<◌}
use native.Mathlib.Omega.{arith}
use borrow.Author.Tests.{eqb-true, eqb-false, eq-eqb, ne_eqb, lt-ltb, le-ltb, ltb-false}
use lib.Dec.{eqb}
use lib.ListN.{length, take, drop, length-append}
use lib.Seq.{length-take-le}
use Rattle.std.specs.Prelude.{Result, Ok, Err, ◌≢◌}
use Rattle.answer.specs.Outcome.{choose, first_of}
use Rattle.answer.specs.Refusal.{refusal_number}
use Rattle.answer.specs.Tests.{isnt, either, both}
use Rattle.answer.specs.declared.refusal.Refusal.{Refusal}
use Rattle.answer.specs.declared.refusal.Refusal.TheVariants.{BadMarkOrLength}
use Rattle.answer.proofs.Rows.{refusal_some, either_false, either_right, isnt_false, first_holds, AllFalse, numbered, first_passes, wrong_length}
use Rattle.session.specs.Entries.{entries, place, has, looked_at}
use Rattle.session.specs.Derivation.{key_length, key_of}
use Rattle.session.specs.Search.{search_rows, searching, Searches}
use Rattle.session.specs.declared.keys.Found.{Found}
use Rattle.session.proofs.KeySearch.{length_entries, entries_front}
use Rattle.session.proofs.Gathering.{key_is}
use Rattle.session.proofs.Places.{found_at, looked_within, search_by_front}

-- ---- its rows

module _ (keys algorithm : ℕ) where
  pub unknown_algorithm_17 : (e : Refusal) → (e ≡ BadMarkOrLength) × (algorithm ≢ 1) × (algorithm ≢ 2) → first_of (search_rows keys algorithm) ≡ refusal_number e
  unfolding search_rows either isnt
  unknown_algorithm_17 e h = rw (h.0, ne_eqb algorithm 1 h.1, ne_eqb algorithm 2 h.2) (first_holds 17 _ _ (either_right _))

  pub half_entry_17 : keys % 19 ≢ 0 → first_of (search_rows keys algorithm) ≡ 17
  unfolding search_rows either
  half_entry_17 h = rw (wrong_length (keys % 19) 0 h) (first_holds 17 _ _ refl)

  module _ (known : either (eqb algorithm 1) (eqb algorithm 2) ≡ true) (whole : keys % 19 ≡ 0) where
    pub too_many_1 : 128 < keys / 19 → first_of (search_rows keys algorithm) ≡ 1
    unfolding search_rows first_of choose either isnt
    too_many_1 h = rw (known, eq-eqb _ _ whole, lt-ltb 128 (keys / 19) h) refl

    pub search_passes : keys / 19 ≤ 128 → first_of (search_rows keys algorithm) ≡ 0
    unfolding search_rows first_of choose either isnt
    search_passes h = rw (known, eq-eqb _ _ whole, le-ltb 128 (keys / 19) h) refl

-- ---- its answers

module _ (keys : List ℕ) (node algorithm : ℕ) where
  pub search_refused : (e : Refusal) (r : Result Found Refusal) → r ≡ Err e → first_of (search_rows (length keys) algorithm) ≡ refusal_number e → Searches (searching keys node algorithm) algorithm r
  unfolding searching choose
  search_refused e r is h = rw (is, h, ne_eqb _ _ (refusal_some e)) (record { number = refl; algorithm_is = refl; looked = refl })

  pub search_accepted : (f : Found) → (f.found ≡ has (entries keys) node algorithm) × (f.looked ≡ looked_at (entries keys) node algorithm)
      → first_of (search_rows (length keys) algorithm) ≡ 0 → Searches (searching keys node algorithm) algorithm (Ok f)
  unfolding searching choose
  search_accepted f is h = rw (h, is.0, is.1) (record { number = refl; algorithm_is = refl; looked = refl })

-- ---- what they tell

module _ (keys : List ℕ) (node algorithm : ℕ) where
  -- where no row holds
  module _ (z : first_of (search_rows (length keys) algorithm) ≡ 0) where
    passed : AllFalse (search_rows (length keys) algorithm)
    unfolding search_rows numbered both
    passed = first_passes (search_rows (length keys) algorithm) 0 refl (sym z) refl

    known_algorithm : either (eqb algorithm 1) (eqb algorithm 2) ≡ true
    unfolding search_rows
    known_algorithm = isnt_false _ (either_false _ _ passed.0).1

    few : length keys / 19 ≤ 128
    unfolding search_rows
    few = ltb-false 128 _ passed.1.0

    accepted_algorithm : (searching keys node algorithm).algorithm ≡ choose (has (entries keys) node algorithm) algorithm 0
    unfolding searching choose
    accepted_algorithm = rw z refl

    accepted_looked : (searching keys node algorithm).looked ≡ looked_at (entries keys) node algorithm
    unfolding searching choose
    accepted_looked = rw z refl

  refused_values : first_of (search_rows (length keys) algorithm) ≢ 0 → ((searching keys node algorithm).algorithm ≡ 0) × ((searching keys node algorithm).looked ≡ 0)
  unfolding searching choose
  refused_values n = rw (ne_eqb _ _ n) (refl, refl)

  -- no search looks at more than 128 entries
  pub searched_few : (searching keys node algorithm).looked ≤ 128
  searched_few = go (eqb (first_of (search_rows (length keys) algorithm)) 0) refl
    where
      go : (t : Bool) → eqb (first_of (search_rows (length keys) algorithm)) 0 ≡ t → (searching keys node algorithm).looked ≤ 128
      go true e =
          let z : first_of (search_rows (length keys) algorithm) ≡ 0 = eqb-true _ _ e in
          omega (arith, accepted_looked z, looked_within node algorithm (entries keys), length_entries keys, few z)
      go false e = let n = (refused_values (eqb-false _ _ e)).1 in omega (arith, n)

  -- an answer with an algorithm has found its entry
  search_met : (searching keys node algorithm).algorithm ≢ 0 → (first_of (search_rows (length keys) algorithm) ≡ 0) × (has (entries keys) node algorithm ≡ true)
  unfolding choose
  search_met s = go (eqb (first_of (search_rows (length keys) algorithm)) 0) refl (has (entries keys) node algorithm) refl
    where
      go : (t : Bool) → eqb (first_of (search_rows (length keys) algorithm)) 0 ≡ t → (u : Bool) → has (entries keys) node algorithm ≡ u
          → (first_of (search_rows (length keys) algorithm) ≡ 0) × (u ≡ true)
      go true e true h = (eqb-true _ _ e, refl)
      go true e false h = absurd (s (accepted_algorithm (eqb-true _ _ e) ∙ rw h refl))
      go false e u h = absurd (s (refused_values (eqb-false _ _ e)).0)

  -- the key that a derivation uses then lies in the list itself, behind 19 bytes for each entry before it, and 3
  pub searched_key : (searching keys node algorithm).algorithm ≢ 0
      → key_of (entries keys) algorithm node ≡ take (key_length algorithm) (drop (((searching keys node algorithm).looked - 1) * 19 + 3) keys)
  searched_key s =
      let m = search_met s in
      let f = (found_at node algorithm (entries keys)).0 m.1 in
      let p : (searching keys node algorithm).looked - 1 ≡ place (entries keys) node algorithm = omega (arith, accepted_looked m.0, f.looked) in
      key_is keys algorithm node _ p (omega (arith, p, f.within, length_entries keys))

  -- n is the count of a search that met its entry
  same_answer : (n : ℕ) → n ≡ looked_at (entries keys) node algorithm → first_of (search_rows (length keys) algorithm) ≡ 0 → has (entries keys) node algorithm ≡ true
      → (more : List ℕ) → length more % 19 ≡ 0 → n + length more / 19 ≤ 128 → searching (take (n * 19) keys ++ more) node algorithm ≡ searching keys node algorithm
  unfolding searching choose
  same_answer n l z there more whole fits =
      let within : n ≤ length keys / 19 = omega (arith, l, looked_within node algorithm (entries keys), length_entries keys) in
      let g = rw (← l) at (search_by_front node algorithm (entries keys) there (entries more)) in
      let size = length-append (take (n * 19) keys) more ∙ ap (λ (k : ℕ). k + length more) (length-take-le (n * 19) keys (omega (arith, within))) in
      let p = search_passes (length (take (n * 19) keys ++ more)) algorithm (known_algorithm z) (omega (arith, size, whole)) (omega (arith, size, fits)) in
      rw (p, z, entries_front n keys more within whole, g.there, there, g.looked) refl

  -- no byte behind the entry that is met plays a part: with any other entries in their place, as long as there are not too many, the answer is the same
  pub searching_by_front : (searching keys node algorithm).algorithm ≢ 0 → (more : List ℕ) → length more % 19 ≡ 0 → (searching keys node algorithm).looked + length more / 19 ≤ 128
      → searching (take ((searching keys node algorithm).looked * 19) keys ++ more) node algorithm ≡ searching keys node algorithm
  searching_by_front s =
      let m = search_met s in
      same_answer _ (accepted_looked m.0) m.0 m.1
