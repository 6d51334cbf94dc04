-- The keys of nodes: the first node that lacks its key, and keys gathered one behind the other. Assumes nothing.
use mathlib.Core.Path.{◌≡◌, refl, sym, ap, ap₂, ◌∙◌}
use mathlib.Core.Bool.{Bool, true, false}
use mathlib.Core.List.{List, [], ◌∷◌, ◌++◌, map, append_assoc, append-nil}
use Prim.Native.Nat.{ℕ, zero, suc, ◌+◌, ◌-◌, ◌*◌, ◌/◌, ◌≤◌, ◌<◌}
use native.Mathlib.Nat.{suc-mul}
use native.Mathlib.Omega.{arith}
use borrow.Author.Tests.{eq-eqb, ne_eqb}
use borrow.Rule.Slice.PartMut.{put_mid}
use lib.Dec.{lit≤, eqb}
use lib.ListN.{length, take, drop, get_or, length-append, take-append-drop}
use lib.Seq.{drop-drop, drop-cons, take-take, take_at, length-take-le}
use Rattle.std.proofs.Common.{Option, Some, None}
use Rattle.std.proofs.lemmas.Iterator.{YieldsList}
use Rattle.std.proofs.lemmas.Iterator.Consumers.{YieldsList-so_far, YieldsList-turn, YieldsList-end}
use Rattle.std.proofs.lemmas.List.{map-id, length-map}
use Rattle.std.specs.Iterator.{Yields}
use Rattle.answer.specs.declared.refusal.Refusal.{Refusal}
use Rattle.cipher.specs.Bytes.{Bytes}
use Rattle.cipher.proofs.ByteLists.{Bytes-nil, Bytes-append, Bytes-take, Bytes-drop}
use Rattle.cipher.proofs.Copies.{length_part, stored}
use Rattle.answer.specs.Outcome.{choose}
use Rattle.answer.proofs.Rows.{choose_most}
use Rattle.session.specs.Entries.{Entry, entry_of, first_entries, entries, place, has, looked_at, key_at}
use Rattle.session.specs.Derivation.{other, key_length, Derived, turned_down, needing, lacks, key_of, keys_of}
use Rattle.answer.specs.declared.refusal.Refusal.TheVariants.{OtherAlgorithm, KeyMissing}
use Rattle.session.specs.inner.DerivationSteps.{refusing}
use Rattle.session.proofs.KeySearch.{length_entries}
use Rattle.session.proofs.Places.{FoundAt, found_at}

-- ---- the key of a node

key_at_lem : (n : ℕ) (l : List ℕ) (p : ℕ) → p < n → key_at (first_entries n l) p ≡ take 16 (drop (p * 19 + 3) l)
unfolding key_at first_entries entry_of
key_at_lem zero l p h = absurd (omega arith)
key_at_lem (suc n) l zero h = refl
key_at_lem (suc n) l (suc p) h =
    let e : 19 + (p * 19 + 3) ≡ suc p * 19 + 3 = omega arith in
    key_at_lem n (drop 19 l) p (omega arith) ∙ ap (take 16) (drop-drop (p * 19 + 3) 19 l ∙ ap (λ (k : ℕ). drop k l) e)

-- an entry has room for a key
pub length_most : (a : ℕ) → key_length a ≤ 16
unfolding key_length
length_most a = choose_most (eqb a 1) 8 16 16 (lit≤ tt) (lit≤ tt)

module _ (keys : List ℕ) (a n : ℕ) where
  module _ (p : ℕ) (e : p ≡ place (entries keys) n a) (h : p < length keys / 19) where
    pub key_is : key_of (entries keys) a n ≡ take (key_length a) (drop (p * 19 + 3) keys)
    unfolding key_of entries
    key_is =
        ap (take (key_length a)) (ap (key_at (first_entries (length keys / 19) keys)) (sym e) ∙ key_at_lem (length keys / 19) keys p h) ∙ take-take (key_length a) 16 (drop (p * 19 + 3) keys) (length_most a)

    pub key_within : p * 19 + 3 + key_length a ≤ length keys
    key_within = omega (arith, length_most a)

    pub key_long : length (key_of (entries keys) a n) ≡ key_length a
    key_long = ap length key_is ∙ length_part keys (p * 19 + 3) (key_length a) key_within

  placed : has (entries keys) n a ≡ true → place (entries keys) n a < length keys / 19
  placed t = let f = (found_at n a (entries keys)).0 t in omega (arith, f.within, length_entries keys)

  pub has_long : has (entries keys) n a ≡ true → length (key_of (entries keys) a n) ≡ key_length a
  has_long t = key_long (place (entries keys) n a) refl (placed t)

pub Bytes-key : (keys : List ℕ) (a n : ℕ) → has (entries keys) n a ≡ true → Bytes keys → Bytes (key_of (entries keys) a n)
Bytes-key keys a n t b =
    rw (key_is keys a n (place (entries keys) n a) refl (placed keys a n t)) (Bytes-take (key_length a) (drop (place (entries keys) n a * 19 + 3) keys) (Bytes-drop (place (entries keys) n a * 19 + 3) keys b))

-- the key at a place, of entries as they lie in a list
key_there : (ls : List (List ℕ)) (p : ℕ) → p < length ls → take 16 (drop 3 (get_or ls p [])) ≡ key_at (map entry_of ls) p
unfolding key_at entry_of
key_there [] p h = absurd (omega arith)
key_there (l ∷ ls) zero h = refl
key_there (l ∷ ls) (suc p) h = key_there ls p (omega arith)

-- a search that found its entry, and looked at so many: the entry is the last of these
module _ (ls : List (List ℕ)) (a n looked : ℕ) (there : true ≡ has (map entry_of ls) n a) (count : looked ≡ looked_at (map entry_of ls) n a) where
  met : FoundAt n a (map entry_of ls)
  met = (found_at n a (map entry_of ls)).0 (sym there)

  pub met_some : 1 ≤ looked
  met_some = omega (arith, count, met.looked)

  pub met_within : looked - 1 < length ls
  met_within = omega (arith, count, met.looked, met.within, length-map ls entry_of)

  -- k is the length of the keys of the algorithm a; key is that of the entry
  module _ (k : ℕ) (ek : k ≡ key_length a) (key : List ℕ) (is : key ≡ take 16 (drop 3 (get_or ls (looked - 1) []))) (long : length key ≡ 16) where
    key_met : key ≡ key_at (map entry_of ls) (place (map entry_of ls) n a)
    key_met =
        let p : looked - 1 ≡ place (map entry_of ls) n a = omega (arith, count, met.looked) in
        is ∙ key_there ls (looked - 1) met_within ∙ ap (key_at (map entry_of ls)) p

    needed_within : k ≤ length key
    needed_within = omega (arith, length_most a, ek, long)

    pub needed_found : (has (map entry_of ls) n a ≡ true) × (take k key ≡ key_of (map entry_of ls) a n) × (length (take k key) ≡ key_length a)
    unfolding key_of
    needed_found = (sym there, rw (ek, key_met), length-take-le k key needed_within ∙ ek)

-- b is the other algorithm, and t what was asked of it
module _ (es : List Entry) (n a b : ℕ) (eb : b ≡ other a) (none : has es n a ≡ false) (t : Bool) (et : t ≡ has es n b) where
  lacking_has : has es n (other a) ≡ t
  lacking_has = sym (et ∙ ap (has es n) eb)

  pub lacks_other : t ≡ true → (has es n a ≡ false) × (lacks es n a ≡ refusing OtherAlgorithm)
  unfolding lacks choose refusing
  lacks_other h = (none, rw (lacking_has, h))

  pub lacks_key : t ≡ false → (has es n a ≡ false) × (lacks es n a ≡ refusing (KeyMissing n))
  unfolding lacks choose refusing
  lacks_key h = (none, rw (lacking_has, h))

-- ---- the first node that lacks its key

-- the refusal of the first of the nodes that lacks its key, else 0
unfoldable pub missing : List Entry → ℕ → List ℕ → Derived
missing es algorithm ns = needing es algorithm ns (turned_down 0 0)

module _ (es : List Entry) (a : ℕ) where
  pub needing_append : (ns ms : List ℕ) (d : Derived) → needing es a (ns ++ ms) d ≡ needing es a ns (needing es a ms d)
  unfolding needing
  needing_append [] ms d = refl
  needing_append (n ∷ ns) ms d = ap (λ (o : Derived). choose (has es n a) o (lacks es n a)) (needing_append ns ms d)

  -- its number is not 0
  lacks_at : (b : Bool) (n : ℕ) (d : Derived) → choose (eqb (choose b (turned_down 5 0) (turned_down 4 n)).number 0) d (choose b (turned_down 5 0) (turned_down 4 n)) ≡ choose b (turned_down 5 0) (turned_down 4 n)
  unfolding choose turned_down
  lacks_at true n d = refl
  lacks_at false n d = refl

  needing_at : (b : Bool) (n : ℕ) (m d o : Derived) → o ≡ choose (eqb m.number 0) d m
      → choose b o (lacks es n a) ≡ choose (eqb (choose b m (lacks es n a)).number 0) d (choose b m (lacks es n a))
  unfolding choose lacks
  needing_at true n m d o e = e
  needing_at false n m d o e = sym (lacks_at (has es n (other a)) n d)

  -- what is needed goes by what is missing
  pub needing_missing : (ns : List ℕ) (d : Derived) → needing es a ns d ≡ choose (eqb (missing es a ns).number 0) d (missing es a ns)
  unfolding needing missing turned_down choose
  needing_missing [] d = refl
  needing_missing (n ∷ ns) d = needing_at (has es n a) n (needing es a ns (turned_down 0 0)) d (needing es a ns d) (needing_missing ns d)

  missing_after : (ns ms : List ℕ) → missing es a (ns ++ ms) ≡ needing es a ns (missing es a ms)
  unfolding missing
  missing_after ns ms = needing_append ns ms (turned_down 0 0)

  pub missing_append : (ns ms : List ℕ) → missing es a (ns ++ ms) ≡ choose (eqb (missing es a ns).number 0) (missing es a ms) (missing es a ns)
  missing_append ns ms = missing_after ns ms ∙ needing_missing ns (missing es a ms)

  -- a refusal is a number and a node
  lacks_shape : (b : Bool) (n : ℕ) → choose b (turned_down 5 0) (turned_down 4 n) ≡ turned_down (choose b (turned_down 5 0) (turned_down 4 n)).number (choose b (turned_down 5 0) (turned_down 4 n)).node
  unfolding choose turned_down
  lacks_shape true n = refl
  lacks_shape false n = refl

  shape_at : (b : Bool) (n : ℕ) (m : Derived) → m ≡ turned_down m.number m.node → choose b m (lacks es n a) ≡ turned_down (choose b m (lacks es n a)).number (choose b m (lacks es n a)).node
  unfolding choose lacks
  shape_at true n m e = e
  shape_at false n m e = lacks_shape (has es n (other a)) n

  pub missing_shape : (ns : List ℕ) → missing es a ns ≡ turned_down (missing es a ns).number (missing es a ns).node
  unfolding needing missing turned_down
  missing_shape [] = refl
  missing_shape (n ∷ ns) = shape_at (has es n a) n (needing es a ns (turned_down 0 0)) (missing_shape ns)

  pub keys_of_append : (ns ms : List ℕ) → keys_of es a (ns ++ ms) ≡ keys_of es a ns ++ keys_of es a ms
  unfolding keys_of
  keys_of_append [] ms = refl
  keys_of_append (n ∷ ns) ms = ap (λ (l : List ℕ). key_of es a n ++ l) (keys_of_append ns ms) ∙ sym (append_assoc (key_of es a n) (keys_of es a ns) (keys_of es a ms))

  pub keys_of_one : (n : ℕ) → keys_of es a (n ∷ []) ≡ key_of es a n
  unfolding keys_of
  keys_of_one n = append-nil (key_of es a n)

  pub lacks_number : (n : ℕ) → (lacks es n a).number ≡ 0 → ⊥
  unfolding lacks choose turned_down
  lacks_number n h = go (has es n (other a)) h
    where
      go : (b : Bool) → (choose b (turned_down 5 0) (turned_down 4 n)).number ≡ 0 → ⊥
      go true e = omega arith
      go false e = omega arith

  -- where nothing is missing, nothing is in a first part
  first_at : (k : ℕ) (d m : Derived) → m.number ≡ k → (choose (eqb k 0) d m).number ≡ 0 → m.number ≡ 0
  unfolding choose
  first_at zero d m e h = e
  first_at (suc k) d m e h = let f : (suc k ≡ 0 → ⊥) = λ z. omega arith in rw (ne_eqb (suc k) 0 f) at h

  pub missing_first : (ns ms : List ℕ) → (missing es a (ns ++ ms)).number ≡ 0 → (missing es a ns).number ≡ 0
  missing_first ns ms h = first_at (missing es a ns).number (missing es a ms) (missing es a ns) refl (rw (missing_append ns ms) at h)

  -- and nothing in the rest
  pub missing_rest : (ns ms : List ℕ) → (missing es a (ns ++ ms)).number ≡ 0 → (missing es a ms).number ≡ 0
  unfolding choose
  missing_rest ns ms h = let z : (missing es a ns).number ≡ 0 = missing_first ns ms h in rw (eq-eqb _ _ z) at (rw (missing_append ns ms) at h)

-- ---- keys gathered

one_more : (ns : List ℕ) (n : ℕ) → length (ns ++ (n ∷ [])) ≡ suc (length ns)
one_more ns n = omega (arith, length-append ns (n ∷ []))

-- the keys of the nodes ns are there, and stand one behind the other in the first size bytes of w
pub record Gathered (es : List Entry) (a : ℕ) (ns : List ℕ) (size : ℕ) (w : List ℕ) : Type 0 where
  pub goes : (d : Derived) → needing es a ns d ≡ d
  pub within : size ≤ length w
  pub size_is : size ≡ length ns * key_length a
  pub bytes : take size w ≡ keys_of es a ns

module _ (es : List Entry) (a : ℕ) where
  pub gathered_none : (w : List ℕ) → Gathered es a [] 0 w
  unfolding needing keys_of
  gathered_none w = record { goes = λ d. refl; within = omega arith; size_is = omega arith; bytes = refl }

  module _ (ns : List ℕ) (size : ℕ) (w : List ℕ) (s : Gathered es a ns size w) (n : ℕ) where
    -- the next key was put behind them
    pub gathered_more : (key w' : List ℕ) → has es n a ≡ true → key ≡ key_of es a n → length key ≡ key_length a → size + length key ≤ length w → w' ≡ take size w ++ key ++ drop (size + length key) w
        → Gathered es a (ns ++ (n ∷ [])) (size + length key) w'
    unfolding needing choose
    gathered_more key w' t e long room put =
        let f : length (take size w ++ key) ≡ size + length key = length-append (take size w) key ∙ ap (λ (x : ℕ). x + length key) (length-take-le size w s.within) in
        let g : take (size + length key) w' ≡ take size w ++ key = ap (take (size + length key)) put ∙ take_at (take size w ++ key) (drop (size + length key) w) (size + length key) f in
        record {
          goes = λ d. needing_append es a ns (n ∷ []) d ∙ s.goes _ ∙ rw t;
          within = omega (arith, f, ap length put, length-append (take size w ++ key) (drop (size + length key) w));
          size_is = omega (arith, s.size_is, long, ap (λ (x : ℕ). x * key_length a) (one_more ns n), suc-mul (length ns) (key_length a));
          bytes = g ∙ ap₂ ◌++◌ s.bytes (e ∙ sym (keys_of_one es a n)) ∙ sym (keys_of_append es a ns (n ∷ []));
        }

    -- by a copy
    pub gathered_copied : (key last : List ℕ) → has es n a ≡ true → key ≡ key_of es a n → length key ≡ key_length a → size + length key ≤ length w
        → last ≡ take (length (take (size + length key - size) (drop size w))) key ++ drop (length key) (take (size + length key - size) (drop size w))
        → Gathered es a (ns ++ (n ∷ [])) (size + length key) (put_mid size (size + length key - size) w last)
    gathered_copied key last t e long room q = gathered_more key _ t e long room (stored w size (length key) room key last q refl)

    -- the next node lacks its key
    pub gathered_lacks : (ms : List ℕ) (o : Derived) → has es n a ≡ false → lacks es n a ≡ o → (d : Derived) → needing es a (ns ++ (n ∷ ms)) d ≡ o
    unfolding needing choose
    gathered_lacks ms o t e d = needing_append es a ns (n ∷ ms) d ∙ s.goes _ ∙ rw t e

-- the loop over a chain that gives the nodes all; it has given ns so far
module _ {S : Type 0} {steps : S → Option ℕ → S → Type 0} {s : S} {all : List ℕ} (road : YieldsList steps (λ x. x) s all) (ns : List ℕ) (t : S) (so_far : Yields steps s ns t)
    (r : Option ℕ) (u : S) (next : steps t r u) (es : List Entry) (a size : ℕ) (w : List ℕ) (g : Gathered es a ns size w) where
  now_is : ns ≡ take (length ns) all
  now_is = sym (map-id ns) ∙ YieldsList-so_far road ns t so_far

  -- and gives no more
  pub gather_done : r ≡ None → ((d : Derived) → needing es a all d ≡ d) × (size ≡ length all * key_length a) × (take size w ≡ keys_of es a all)
  gather_done e =
      let h : ns ≡ all = sym (map-id ns) ∙ (YieldsList-end road ns t so_far r u e next).0 in
      rw (← h) (g.goes, g.size_is, g.bytes)

  -- and gives a node that lacks its key
  pub gather_lacks : (n : ℕ) (o : Refusal) → r ≡ Some n → (has es n a ≡ false) × (lacks es n a ≡ refusing o) → (d : Derived) → needing es a all d ≡ refusing o
  gather_lacks n o e h =
      let v = YieldsList-turn road ns t so_far r u n e next in
      let i : length ns < length all = v.0 in
      let q : all ≡ ns ++ (n ∷ drop (suc (length ns)) all) =
      sym (take-append-drop (length ns) all) ∙ ap₂ ◌++◌ (sym now_is) (drop-cons all (length ns) n i ∙ ap (λ (x : ℕ). x ∷ drop (suc (length ns)) all) (sym v.1)) in
      λ d. ap (λ (l : List ℕ). needing es a l d) q ∙ gathered_lacks es a ns size w g n (drop (suc (length ns)) all) (refusing o) h.0 h.1 d

-- the keys of all nodes, each as long as its algorithm wants
module _ (keys : List ℕ) (a : ℕ) where
  long_at : (n : ℕ) (ns : List ℕ) (b : Bool) → has (entries keys) n a ≡ b → (choose b (missing (entries keys) a ns) (lacks (entries keys) n a)).number ≡ 0
      → ((missing (entries keys) a ns).number ≡ 0 → length (keys_of (entries keys) a ns) ≡ length ns * (key_length a)) → length (key_of (entries keys) a n ++ keys_of (entries keys) a ns) ≡ suc (length ns) * (key_length a)
  unfolding choose
  long_at n ns true t h f =
      length-append (key_of (entries keys) a n) (keys_of (entries keys) a ns) ∙ ap₂ (λ (x y : ℕ). x + y) (has_long keys a n t) (f h) ∙ omega (arith, suc-mul (length ns) (key_length a))
  long_at n ns false t h f = absurd (lacks_number (entries keys) a n h)

  pub keys_long : (ns : List ℕ) → (missing (entries keys) a ns).number ≡ 0 → length (keys_of (entries keys) a ns) ≡ length ns * (key_length a)
  unfolding keys_of missing needing
  keys_long [] h = omega arith
  keys_long (n ∷ ns) h = long_at n ns (has (entries keys) n a) refl h (keys_long ns)

  bytes_at : (n : ℕ) (ns : List ℕ) (b : Bool) → has (entries keys) n a ≡ b → (choose b (missing (entries keys) a ns) (lacks (entries keys) n a)).number ≡ 0 → Bytes keys
      → ((missing (entries keys) a ns).number ≡ 0 → Bytes (keys_of (entries keys) a ns)) → Bytes (key_of (entries keys) a n ++ keys_of (entries keys) a ns)
  unfolding choose
  bytes_at n ns true t h b f = Bytes-append (key_of (entries keys) a n) (keys_of (entries keys) a ns) (Bytes-key keys a n t b) (f h)
  bytes_at n ns false t h b f = absurd (lacks_number (entries keys) a n h)

  pub keys_bytes : (ns : List ℕ) → (missing (entries keys) a ns).number ≡ 0 → Bytes keys → Bytes (keys_of (entries keys) a ns)
  unfolding keys_of missing needing
  keys_bytes [] h b = Bytes-nil
  keys_bytes (n ∷ ns) h b = bytes_at n ns (has (entries keys) n a) refl h b (λ k. keys_bytes ns k b)
