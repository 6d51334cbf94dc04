-- When an answer is that of a derivation's definition, step by step. Assumes nothing.
use mathlib.Core.Path.{◌≡◌, refl, sym, ap, ap₂, ◌∙◌}
use mathlib.Core.Bool.{Bool, true, false}
use mathlib.Core.List.{List, [], ◌∷◌, ◌++◌, map}
use mathlib.Core.HLevel.{⊥_prop}
use mathlib.Core.Logic.{∥∥₁_elim}
use Prim.Native.Nat.{ℕ, ◌/◌, ◌%◌, ◌≤◌, ◌<◌}
use native.Mathlib.Omega.{arith}
use borrow.Author.Tests.{eq-eqb, ne_eqb, lt-ltb, le-ltb}
use lib.Dec.{eqb, ltb}
use lib.ListN.{length, replicate}
use Rattle.cipher.specs.Fips197.{aes_encrypt}
use Rattle.cipher.specs.Fips46.{des_encrypt}
use Rattle.cipher.specs.Fold.{under_each}
use Rattle.std.proofs.Common.{Option, Some, None, MatchOption, Result, Ok, Err, ◌≢◌}
use Rattle.std.proofs.lemmas.List.{length-map}
use Rattle.std.proofs.lemmas.Result.{err_from_is_err_and}
use Rattle.std.specs.Result.{IsErrAnd}
use Rattle.std.specs.Option.{IfSome, is_some}
use Rattle.std.specs.Option.{ok_or, unwrap_or}
use Rattle.answer.specs.Outcome.{Row, row, choose, first_of, over}
use Rattle.answer.specs.Refusal.{refusal_number, refusal_node}
use Rattle.answer.specs.Scheme.{mark_of}
use Rattle.answer.specs.Tests.{isnt, either, both}
use Rattle.answer.specs.declared.refusal.Refusal.{Refusal}
use Rattle.answer.specs.declared.refusal.Refusal.TheVariants.{OutputTooSmall, BadMarkOrLength, NoNodes, KeyMissing}
use Rattle.answer.specs.declared.scheme.Scheme.{Scheme}
use Rattle.answer.specs.declared.scheme.Scheme.TheVariants.{Des, Aes128}
use Rattle.answer.proofs.Rows.{refusal_some, either_false, either_right, isnt_false, numbered, first_passes}
use Rattle.session.specs.Entries.{Entry, entry_of, entries, nodes, has, unknown_algorithm, twice}
use Rattle.session.specs.declared.keys.DerivedAuthKeys.{DerivedAuthKeys}
use Rattle.session.specs.Derivation.{Derived, Derives, turned_down, derived, by_rows, lacks, needing, key_of, keys_of, group_des, user_des, des_rows, derived_des, chain_start, group_aes, individual_key, derived_aes, target, derived_by, chosen, derived_for, lengths_wrong, derive_rows, derived_before16, with_room, derivation}
use Rattle.session.specs.inner.DerivationSteps.{refusing, forced_mark, bytes_of, Guards}
use Rattle.session.specs.ServiceCode.{bearing}
use Rattle.session.proofs.Gathering.{needing_append}
use Rattle.session.proofs.NodeLists.{length_nodes}

-- ---- refusals and deliveries

-- a definition that is known to refuse
pub refusal_derives : (d : Derived) (room : ℕ) (out : List ℕ) (e : Refusal) → d ≡ refusing e → Derives (with_room room d) (Err e) out out
unfolding with_room refusing turned_down choose over
refusal_derives d room out e h = rw (h, le-ltb room 0 (omega arith)) (record { number = refl; node = refl; scheme = refl; length_is = refl; output = refl })

-- the same where `?` passed the refusal on
pub question_derives : (d : Derived) (room : ℕ) (out : List ℕ) (r : Result DerivedAuthKeys Refusal) (e : Refusal) → IsErrAnd r (λ x. x ≡ e) → d ≡ refusing e → Derives (with_room room d) r out out
question_derives d room out r e q h = let p = err_from_is_err_and r q in rw (p.1, p.2) (refusal_derives d room out e h)

module _ (scheme : Scheme) (b before : List ℕ) where
  pub short_derives : length before < length b → Derives (with_room (length before) (derived (mark_of scheme) b)) (Err OutputTooSmall) before before
  unfolding with_room derived turned_down choose over
  short_derives h = rw (lt-ltb (length before) (length b) h) (record { number = refl; node = refl; scheme = refl; length_is = refl; output = refl })

  pub delivery_derives : (n : ℕ) (after : List ℕ) → length b ≤ length before → n ≡ length b → after ≡ over b before → Derives (with_room (length before) (derived (mark_of scheme) b)) (Ok (record { length = n; scheme = scheme })) before after
  unfolding with_room derived choose
  delivery_derives n after h l w = rw (le-ltb (length before) (length b) h) (record { number = refl; node = refl; scheme = refl; length_is = l; output = w })

-- ---- rows

module _ (rows : List Row) (d : Derived) where
  pub rows_refuse : (e : Refusal) → (first_of rows ≡ refusal_number e) × (refusal_node e ≡ 0) → by_rows rows d ≡ refusing e
  unfolding by_rows choose refusing
  rows_refuse e h = let f : first_of rows ≢ 0 = λ z. refusal_some e (sym h.0 ∙ z) in rw (ne_eqb _ _ f, h.0, h.1)

  pub rows_pass : first_of rows ≡ 0 → by_rows rows d ≡ d
  unfolding by_rows choose
  rows_pass h = rw (eq-eqb _ _ h)

-- ---- 17, 1, 2

module _ (keys areas services : List ℕ) (ls : List (List ℕ)) (e : map entry_of ls ≡ entries keys) (k : length keys % 19 ≡ 0) (a : length areas % 2 ≡ 0) (s : length services % 2 ≡ 0) where
  -- lists of whole entries and nodes: 17 is for an unknown algorithm
  pub lists_whole : first_of (derive_rows 0 keys areas services [])
      ≡ choose (unknown_algorithm (map entry_of ls)) 17 (choose (either (ltb 128 (length ls)) (either (ltb 32 (length areas / 2)) (ltb 32 (length services / 2)))) 1 (choose (twice (map entry_of ls)) 2 0))
  unfolding derive_rows lengths_wrong first_of either isnt
  lists_whole = rw (eq-eqb _ _ k, eq-eqb _ _ a, eq-eqb _ _ s, ← e, length-map ls entry_of, length_nodes areas, length_nodes services)

  -- no algorithm is unknown
  module _ (known : unknown_algorithm (map entry_of ls) ≡ false) where
    pub lists_known : first_of (derive_rows 0 keys areas services []) ≡ choose (either (ltb 128 (length ls)) (either (ltb 32 (length areas / 2)) (ltb 32 (length services / 2)))) 1 (choose (twice (map entry_of ls)) 2 0)
    unfolding choose
    lists_known = lists_whole ∙ rw known

    -- there are not too many
    pub lists_few : length ls ≤ 128 → length areas / 2 ≤ 32 → length services / 2 ≤ 32 → first_of (derive_rows 0 keys areas services []) ≡ choose (twice (map entry_of ls)) 2 0
    unfolding choose either
    lists_few m n o = lists_known ∙ rw (le-ltb _ _ m, le-ltb _ _ n, le-ltb _ _ o)

-- ---- the whole derivation

-- what no refusal says of the individual key
pub own_fits : (mark : ℕ) (keys areas services individual : List ℕ) → first_of (derive_rows mark keys areas services individual) ≡ 0 → either (eqb (length individual) 0) (eqb (length individual) 16) ≡ true
unfolding derive_rows lengths_wrong numbered both
own_fits mark keys areas services individual e =
    let f = first_passes (derive_rows mark keys areas services individual) 0 refl (sym e) refl in
    let u = (either_false _ _ (either_false _ _ f.0).1).0 in
    isnt_false _ (either_false _ _ (either_false _ _ (either_false _ _ u).1).1).1

-- the mark of a scheme that is forced
forced_low : (o : Option Scheme) → forced_mark o ≤ 2
forced_low None = omega arith
forced_low (Some Des) = omega arith
forced_low (Some Aes128) = omega arith

-- an individual key has its length
own_length : (o : Option (List ℕ)) (k : List ℕ) → IfSome o (λ x. length x ≡ 16) → bytes_of o ≡ k → either (eqb (length k) 0) (eqb (length k) 16) ≡ true
unfolding either
own_length None k h e = rw (← e)
own_length (Some x) k h e = rw (← e, h)

-- where `?` passed a refusal on
pub question_guards : {A : Type 0} (rows : List Row) (r : Result A Refusal) (e : Refusal) → IsErrAnd r (λ x. x ≡ e) → (first_of rows ≡ refusal_number e) × (refusal_node e ≡ 0) → Guards rows r
question_guards rows r e q h = let p = err_from_is_err_and r q in rw (p.1, p.2) h

module _ (mark : ℕ) (keys areas services individual : List ℕ) where
  -- an unknown mark
  pub mark_refuses : (e : Refusal) → (e ≡ BadMarkOrLength) × (2 < mark) → (first_of (derive_rows mark keys areas services individual) ≡ refusal_number e) × (refusal_node e ≡ 0)
  unfolding derive_rows first_of either choose
  mark_refuses e h = rw (h.0, lt-ltb 2 mark h.1) (refl, refl)

  -- an individual key of another length
  pub individual_refuses : (e : Refusal) → (e ≡ BadMarkOrLength) × (length individual ≢ 0) × (length individual ≢ 16) → (first_of (derive_rows mark keys areas services individual) ≡ refusal_number e) × (refusal_node e ≡ 0)
  unfolding derive_rows lengths_wrong first_of either isnt choose
  individual_refuses e h = rw (h.0, ne_eqb _ _ h.1, ne_eqb _ _ h.2) (rw (either_right, either_right, either_right, either_right), refl)

  -- the mark and the individual key are right: the lists decide
  pub by_lists : (o : Option Scheme) → forced_mark o ≡ mark → (k : Option (List ℕ)) → IfSome k (λ x. length x ≡ 16) → bytes_of k ≡ individual
      → first_of (derive_rows mark keys areas services individual) ≡ first_of (derive_rows 0 keys areas services [])
  unfolding derive_rows lengths_wrong either
  by_lists o em k long ek =
      let h : mark ≤ 2 = omega (arith, forced_low o, em) in
      let f : either (eqb (length individual) 0) (eqb (length individual) 16) ≡ true = own_length k individual long ek in
      rw (le-ltb 2 mark h, f)

  module _ (room : ℕ) where
    -- the rows refused
    pub rows_derives : (out : List ℕ) (r : Result DerivedAuthKeys Refusal) (e : Refusal) → IsErrAnd r (λ x. x ≡ e) → (first_of (derive_rows mark keys areas services individual) ≡ refusal_number e) × (refusal_node e ≡ 0)
        → Derives (derivation mark keys areas services individual room) r out out
    unfolding derivation derived_before16
    rows_derives out r e q h = question_derives _ room out r e q (rows_refuse _ _ e h)

    -- none did, and these were given
    module _ (passed : first_of (derive_rows mark keys areas services individual) ≡ 0) (o : Option Scheme) (es : List Entry) (ar sv : List ℕ) (k : Option (List ℕ))
        (given : (forced_mark o ≡ mark) × (es ≡ entries keys) × (ar ≡ areas) × (sv ≡ services) × (bytes_of k ≡ individual)) where
      goes : derivation mark keys areas services individual room ≡ with_room room (derived_for (forced_mark o) es (nodes ar) (nodes sv) (bytes_of k))
      unfolding derivation derived_before16
      goes = ap (with_room room) (rows_pass _ _ passed) ∙ rw (given.0, given.1, given.2, given.3, given.4)

      -- the choice of a scheme refused
      pub choice_derives : (out : List ℕ) (r : Result DerivedAuthKeys Refusal) (e : Refusal) → IsErrAnd r (λ x. x ≡ e)
          → ((i : List ℕ) → derived_for (forced_mark o) es (nodes ar) (nodes sv) i ≡ refusing e) → Derives (derivation mark keys areas services individual room) r out out
      choice_derives out r e q h = rw goes (question_derives _ room out r e q (h _))

      -- s was chosen
      module _ (s : Scheme) (h : (i : List ℕ) → derived_for (forced_mark o) es (nodes ar) (nodes sv) i ≡ derived_by (mark_of s) es (nodes ar) (nodes sv) i)
          (r : Result DerivedAuthKeys Refusal) (before after : List ℕ) where
        pub des_derives : s ≡ Des → Derives (with_room room (derived_des es (nodes ar) (nodes sv) (bytes_of k))) r before after → Derives (derivation mark keys areas services individual room) r before after
        unfolding derived_by choose
        des_derives e d = rw (goes, h (bytes_of k), e) d

        pub aes_derives : s ≡ Aes128 → Derives (with_room room (derived_aes es (nodes ar) (nodes sv) (bytes_of k))) r before after → Derives (derivation mark keys areas services individual room) r before after
        unfolding derived_by choose
        aes_derives e d = rw (goes, h (bytes_of k), e) d

-- ---- the scheme that is chosen

-- a scheme is forced
pub chosen_forced : (es : List Entry) (areas services : List ℕ) (o : Option Scheme) (s : Scheme) → o ≡ Some s → (individual : List ℕ)
    → derived_for (forced_mark o) es areas services individual ≡ derived_by (mark_of s) es areas services individual
unfolding derived_for choose
chosen_forced es areas services o s e individual = rw (e, ne_eqb (mark_of s) 0 (mark_some s))
  where
    mark_some : (t : Scheme) → mark_of t ≢ 0
    mark_some Des = λ z. omega arith
    mark_some Aes128 = λ z. omega arith

-- none is forced
pub unforced : (o : Option Scheme) → ((s : Scheme) → o ≡ Some s → ⊥) → forced_mark o ≡ 0
unforced None h = refl
unforced (Some s) h = absurd (h s refl)

module _ (es : List Entry) (areas services : List ℕ) (mark : ℕ) (z : mark ≡ 0) where
  -- no node is listed
  pub chosen_none : length (areas ++ services) ≡ 0 → (individual : List ℕ) → derived_for mark es areas services individual ≡ refusing NoNodes
  unfolding derived_for chosen by_rows first_of choose refusing
  chosen_none h individual = rw (z, eq-eqb (length (areas ++ services)) 0 h)

  -- t is the target
  module _ (full : length (areas ++ services) ≢ 0) (t : ℕ) (et : t ≡ target areas services) where
    chosen_some : (individual : List ℕ) → derived_for mark es areas services individual
        ≡ choose (has es t 2) (derived_by 2 es areas services individual) (choose (has es t 1) (derived_by 1 es areas services individual) (turned_down 4 t))
    unfolding derived_for chosen by_rows first_of choose
    chosen_some individual = rw (z, et, ne_eqb (length (areas ++ services)) 0 full)

    -- a says whether it has an AES key
    module _ (a : Bool) (ea : a ≡ has es t 2) where
      pub chosen_aes : a ≡ true → (individual : List ℕ) → derived_for mark es areas services individual ≡ derived_by 2 es areas services individual
      unfolding choose
      chosen_aes h individual = chosen_some individual ∙ rw (sym ea ∙ h)

      -- b says whether it has a DES key
      module _ (h : a ≡ false) (b : Bool) (eb : b ≡ has es t 1) where
        pub chosen_des : b ≡ true → (individual : List ℕ) → derived_for mark es areas services individual ≡ derived_by 1 es areas services individual
        unfolding choose
        chosen_des k individual = chosen_some individual ∙ rw (sym ea ∙ h, sym eb ∙ k)

        pub chosen_lacking : b ≡ false → (individual : List ℕ) → derived_for mark es areas services individual ≡ refusing (KeyMissing t)
        unfolding choose refusing
        chosen_lacking k individual = chosen_some individual ∙ rw (sym ea ∙ h, sym eb ∙ k)

-- `ok_or` of a target that is not there
pub no_target : (P : Type 0) (Q : ℕ → Type 0) (r : Option ℕ) (e : Refusal) → MatchOption r P Q → Err e ≡ ok_or r NoNodes → P × (NoNodes ≡ e)
no_target P Q None e h k = (h, cc)
no_target P Q (Some t) e h k = absurd (cc)

-- ---- DES

-- whether there is an individual key
pub bytes_none : (o : Option (List ℕ)) (t : Bool) → t ≡ is_some o → t ≡ false → bytes_of o ≡ []
bytes_none None t e h = refl
bytes_none (Some k) t e h = absurd (cc)

pub bytes_some : (o : Option (List ℕ)) (t : Bool) → ∥ IfSome o (λ k. length k ≡ 16) ∥₁ → t ≡ is_some o → t ≡ true → length (bytes_of o) ≢ 0
bytes_some None t l e h = absurd (cc)
bytes_some (Some k) t l e h = λ z. ∥∥₁_elim l ⊥_prop (λ w. omega (arith, w, z))

module _ (es : List Entry) (areas services k : List ℕ) where
  des_steps : derived_des es areas services k
      ≡ by_rows (des_rows (length k) (length areas) (length (bearing services))) (needing es 1 (0xFFFF ∷ (areas ++ bearing services)) (derived 1 (group_des es areas ++ user_des es areas services)))
  unfolding derived_des
  des_steps = refl

  pub des_refused : (e : Refusal) → (first_of (des_rows (length k) (length areas) (length (bearing services))) ≡ refusal_number e) × (refusal_node e ≡ 0) → derived_des es areas services k ≡ refusing e
  des_refused e h = des_steps ∙ rows_refuse _ _ e h

  module _ (passed : first_of (des_rows (length k) (length areas) (length (bearing services))) ≡ 0) where
    des_goes : derived_des es areas services k ≡ needing es 1 (0xFFFF ∷ (areas ++ bearing services)) (derived 1 (group_des es areas ++ user_des es areas services))
    des_goes = des_steps ∙ rows_pass _ _ passed

    pub des_no_system : (e : Refusal) → (has es 0xFFFF 1 ≡ false) × (lacks es 0xFFFF 1 ≡ refusing e) → derived_des es areas services k ≡ refusing e
    unfolding needing choose
    des_no_system e h = des_goes ∙ rw h.0 h.1

    module _ (system : has es 0xFFFF 1 ≡ true) where
      des_chain : derived_des es areas services k ≡ needing es 1 areas (needing es 1 (bearing services) (derived 1 (group_des es areas ++ user_des es areas services)))
      unfolding needing choose
      des_chain = des_goes ∙ rw system (needing_append es 1 areas (bearing services) _)

      pub des_lacks_area : (e : Refusal) → ((d : Derived) → needing es 1 areas d ≡ refusing e) → derived_des es areas services k ≡ refusing e
      des_lacks_area e h = des_chain ∙ h _

      module _ (all : (d : Derived) → needing es 1 areas d ≡ d) where
        pub des_lacks_service : (e : Refusal) → ((d : Derived) → needing es 1 (bearing services) d ≡ refusing e) → derived_des es areas services k ≡ refusing e
        des_lacks_service e h = des_chain ∙ all _ ∙ h _

        -- group and user are what the chains gave
        pub des_given : ((d : Derived) → needing es 1 (bearing services) d ≡ d) → (s group user : List ℕ) → s ≡ key_of es 1 0xFFFF
            → group ≡ under_each des_encrypt 8 (keys_of es 1 areas) s → user ≡ under_each des_encrypt 8 (keys_of es 1 (bearing services)) group → derived_des es areas services k ≡ derived 1 (group ++ user)
        unfolding group_des user_des
        des_given h s group user e p q =
            let g : group ≡ group_des es areas = p ∙ ap (under_each des_encrypt 8 (keys_of es 1 areas)) e in
            let u : user ≡ user_des es areas services = q ∙ ap (under_each des_encrypt 8 (keys_of es 1 (bearing services))) g in
            des_chain ∙ all _ ∙ h _ ∙ ap (derived 1) (sym (ap₂ ◌++◌ g u))

-- ---- AES

module _ (es : List Entry) (areas services k : List ℕ) where
  aes_steps : derived_aes es areas services k ≡ needing es 2 (areas ++ services) (by_rows (row 3 (eqb (length (areas ++ services)) 0) ∷ []) (derived 2 (group_aes es (areas ++ services) ++ individual_key k)))
  unfolding derived_aes
  aes_steps = refl

  pub aes_lacks : (e : Refusal) → ((d : Derived) → needing es 2 (areas ++ services) d ≡ refusing e) → derived_aes es areas services k ≡ refusing e
  aes_lacks e h = aes_steps ∙ h _

  module _ (all : (d : Derived) → needing es 2 (areas ++ services) d ≡ d) where
    pub aes_none : length (areas ++ services) ≡ 0 → derived_aes es areas services k ≡ refusing NoNodes
    unfolding by_rows first_of choose refusing
    aes_none h = aes_steps ∙ all _ ∙ rw (eq-eqb _ _ h)

    pub aes_given : length (areas ++ services) ≢ 0 → (x group own : List ℕ) → x ≡ keys_of es 2 (areas ++ services) → group ≡ under_each aes_encrypt 16 x chain_start → own ≡ individual_key k
        → derived_aes es areas services k ≡ derived 2 (group ++ own)
    unfolding by_rows first_of choose group_aes
    aes_given h x group own e p q =
        let g : group ≡ group_aes es (areas ++ services) = p ∙ ap (λ (l : List ℕ). under_each aes_encrypt 16 l chain_start) e in
        aes_steps ∙ all _ ∙ rw (ne_eqb _ _ h) (ap (derived 2) (sym (ap₂ ◌++◌ g q)))

-- zeros stand for an absent individual key
pub own_key : (o : Option (List ℕ)) → IfSome o (λ k. length k ≡ 16) → unwrap_or o (replicate 16 0) ≡ individual_key (bytes_of o)
unfolding individual_key choose
own_key None h = refl
own_key (Some k) h = rw (ne_eqb (length k) 0 (λ z. omega arith))
