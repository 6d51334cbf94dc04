-- The nodes of a list, and those of them that bear a key. Assumes nothing.
use mathlib.Core.Path.{◌≡◌, refl, sym, ap, ap₂, ◌∙◌}
use mathlib.Core.Bool.{Bool, true, false, ◌&&◌, not}
use mathlib.Core.List.{List, [], ◌∷◌, ◌++◌}
use Prim.Native.Nat.{ℕ, zero, suc, ◌+◌, ◌/◌, ◌<◌}
use native.Mathlib.Omega.{arith}
use lib.ListN.{length, take, drop, get_or, get_or-append, length-append, take-append-drop}
use lib.Seq.{drop_at, length-take-le}
use Rattle.std.proofs.Common.{Option, Some, None, MatchOption, cond, ◌≢◌, map}
use Rattle.std.proofs.lemmas.Iterator.{YieldsList, items_from_drains}
use Rattle.std.proofs.lemmas.List.{map-id}
use Rattle.std.proofs.lemmas.Iterator.Consumers.{YieldsList-from_first, YieldsList-from_filter, YieldsList-from_chain, YieldsList-at}
use Rattle.std.specs.Fn.{CalledAt}
use Rattle.std.specs.Iterator.Adapters.{filter_source, filter_callee, filter_steps, chain_first, chain_second, chain_first_done, chain_second_done, chain_steps}
use denote.Param.Members.{Mut}
use denote.Ref.{Bor}
use Rattle.std.specs.Iterator.{Drains, YieldsFirst}
use Rattle.std.specs.List.{filter, last_or, list_all}
use Rattle.std.specs.Option.{option_or}
use Rattle.std.specs.Ordering.{is_le, is_lt, nat_cmp}
use Rattle.std.proofs.lemmas.Bool.Decides.{nat_tests}
use borrow.Author.Tests.{eqb-true, eq-eqb, ne_eqb}
use lib.Dec.{eqb, ltb}
use Rattle.answer.specs.Number.{number_of}
use Rattle.answer.specs.Outcome.{choose}
use Rattle.answer.specs.Tests.{both}
use Rattle.session.specs.Entries.{first_nodes, nodes}
use Rattle.session.specs.Derivation.{last, target}
use Rattle.session.specs.inner.DerivationSteps.{Lists}
use Rattle.session.specs.declared.types.Nodes.{Nodes}
use Rattle.session.specs.ServiceCode.{key_free, bearing}

pub length_first_nodes : (n : ℕ) (l : List ℕ) → length (first_nodes n l) ≡ n
unfolding first_nodes
length_first_nodes zero l = refl
length_first_nodes (suc n) l = ap suc (length_first_nodes n (drop 2 l))

pub length_nodes : (l : List ℕ) → length (nodes l) ≡ length l / 2
unfolding nodes
length_nodes l = length_first_nodes (length l / 2) l

-- one node, and those behind it
pub nodes_cons : (x r : List ℕ) → length x ≡ 2 → nodes (x ++ r) ≡ number_of x ∷ nodes r
unfolding nodes first_nodes
nodes_cons x r h =
    let e : length (x ++ r) / 2 ≡ suc (length r / 2) = omega (arith, length-append x r) in
    let a : get_or (x ++ r) 0 0 ≡ get_or x 0 0 = get_or-append x r 0 0 (omega arith) in
    let b : get_or (x ++ r) 1 0 ≡ get_or x 1 0 = get_or-append x r 0 1 (omega arith) in
    rw (e, a, b, drop_at x r 2 h)

pub nodes_short : (l : List ℕ) → length l < 2 → nodes l ≡ []
unfolding nodes first_nodes
nodes_short l h = let e : length l / 2 ≡ 0 = omega arith in rw e

-- the first node of l, cut off
pub nodes_step : (l x r : List ℕ) → x ≡ take 2 l → r ≡ drop 2 l → length r + 2 ≡ length l → nodes l ≡ number_of x ∷ nodes r
nodes_step l x r e f h =
    let k : length x ≡ 2 = ap length e ∙ length-take-le 2 l (omega arith) in
    ap nodes (sym (take-append-drop 2 l) ∙ sym (ap₂ ◌++◌ e f)) ∙ nodes_cons x r k

-- `Nodes` gives the nodes
pub YieldsList-from_nodes : {s : Nodes} (l : List ℕ) → s.rest.now ≡ l → YieldsList (YieldsFirst (λ t. nodes t.rest.now)) (λ x. x) s (nodes l)
YieldsList-from_nodes l e = YieldsList-from_first (λ x. x) (λ t. nodes t.rest.now) (nodes l) (ap nodes e)

-- ---- the services that bear a key

pub bearing_filter : (l : List ℕ) → filter (λ s. not (key_free s)) l ≡ bearing l
unfolding bearing choose
bearing_filter [] = refl
bearing_filter (s ∷ l) = go (key_free s) (bearing_filter l)
  where
    go : (t : Bool) → filter (λ x. not (key_free x)) l ≡ bearing l → cond (not t) (s ∷ filter (λ x. not (key_free x)) l) (filter (λ x. not (key_free x)) l) ≡ choose t (bearing l) (s ∷ bearing l)
    go true h = h
    go false h = ap (λ (x : List ℕ). s ∷ x) h

-- a key-free service by itself: none bears a key
pub one_free : (service : ℕ) → key_free service ≡ true → length (bearing (service ∷ [])) ≡ 0
unfolding bearing choose
one_free service e = rw e

-- a service by itself that is not key-free: one does
pub one_bearing : (service : ℕ) → key_free service ≡ false → length (bearing (service ∷ [])) ≡ 1
unfolding bearing choose
one_bearing service e = rw e

-- ---- what the iterators list

pub Lists-nodes : {s : Nodes} (l : List ℕ) → s.rest.now ≡ l → Lists (YieldsFirst (λ t. nodes t.rest.now)) s (nodes l)
Lists-nodes l e = record { runs = (YieldsList-from_nodes l e).runs }

-- the nodes of two lists, one behind the other
pub Lists-chain : {s : _} (l m : List ℕ) {t u : Nodes} → chain_first s ≡ t → chain_second s ≡ u → t.rest.now ≡ l → u.rest.now ≡ m → chain_first_done s ≡ false → chain_second_done s ≡ false
    → Lists (chain_steps (YieldsFirst (λ v. nodes v.rest.now)) (YieldsFirst (λ v. nodes v.rest.now))) s (nodes l ++ nodes m)
Lists-chain l m e f p q i j = record { runs = (YieldsList-from_chain (YieldsList-at e (YieldsList-from_nodes l p)) (YieldsList-at f (YieldsList-from_nodes m q)) i j).runs }

-- those of the services that bear a key
pub Lists-keyed : {F : Type 0} {s : _} (g : Mut F (Bor ℕ × Unit {0}) Bool) {f : F} (t : Nodes) (l : List ℕ) → filter_source s ≡ t → t.rest.now ≡ l → filter_callee s ≡ f
    → ((x : ℕ) (b : Bool) (q : F) → CalledAt g f x b q → (q ≡ f) × (b ≡ not (key_free x))) → Lists (filter_steps (YieldsFirst (λ u. nodes u.rest.now)) g) s (bearing (nodes l))
Lists-keyed g t l e n c h =
    rw (← bearing_filter (nodes l)) (record { runs = (YieldsList-from_filter g (λ x. not (key_free x)) (YieldsList-at e (YieldsList-from_nodes l n)) c h).runs })

-- t says whether all are key-free
all_free : (l : List ℕ) → list_all key_free l ≡ eqb (length (bearing l)) 0
unfolding bearing choose
all_free [] = refl
all_free (s ∷ l) = go (key_free s) (all_free l)
  where
    go : (t : Bool) → list_all key_free l ≡ eqb (length (bearing l)) 0 → (t && list_all key_free l) ≡ eqb (length (choose t (bearing l) (s ∷ bearing l))) 0
    go true h = h
    go false h = sym (ne_eqb (suc (length (bearing l))) 0 (λ z. omega arith))

module _ (l : List ℕ) (t : Bool) (e : t ≡ list_all key_free l) where
  pub none_bearing : t ≡ true → length (bearing l) ≡ 0
  none_bearing h = eqb-true _ _ (sym (all_free l) ∙ sym e ∙ h)

  pub some_bearing : t ≡ false → length (bearing l) ≢ 0
  some_bearing h = λ z. absurd (cc (eq-eqb (length (bearing l)) 0 z, all_free l))

-- ---- the last node

-- the last of a list is what stands at its last place
pub last_at : (d : ℕ) (l : List ℕ) (k : ℕ) → length l ≡ k + 1 → last d l ≡ get_or l k 0
unfolding last
last_at d [] k h = absurd (omega arith)
last_at d (x ∷ []) k h = let z : k ≡ 0 = omega arith in rw z
last_at d (x ∷ y ∷ l) zero h = absurd (omega arith)
last_at d (x ∷ y ∷ l) (suc k) h = last_at x (y ∷ l) k (omega arith)

-- the last of no nodes is the default
pub last_none : (d : ℕ) (l : List ℕ) → length l ≡ 0 → d ≡ last d l
unfolding last
last_none d [] h = refl
last_none d (x ∷ l) h = absurd (omega arith)

-- what `last` ensures of a chain that gives the list all
pub last_from : {S : Type 0} {steps : S → Option ℕ → S → Type 0} {s : S} (r : Option ℕ) (all : List ℕ) → ((xs : List ℕ) × Drains steps s xs × (r ≡ last_or None xs)) → YieldsList steps (λ x. x) s all → r ≡ last_or None all
last_from {S} {steps} {s} r all h y =
    let e : map (λ x. x) h.0 ≡ all = items_from_drains {steps = steps} {s = s} h.0 (h.1.1.0, h.1.1.1, λ _. (h.1.0, h.1.1.2)) y in
    h.2 ∙ ap (last_or None) (sym (map-id h.0) ∙ e)

last_some : (x : ℕ) (l : List ℕ) → last_or (Some x) l ≡ Some (last x l)
unfolding last
last_some x [] = refl
last_some x (y ∷ l) = last_some y l

-- the target is the last that bears a key, else the last service, else the last area
pub target_found : (areas services : List ℕ) (r : Option ℕ) → r ≡ option_or (option_or (last_or None (bearing services)) (last_or None services)) (last_or None areas)
    → MatchOption r (length (areas ++ services) ≡ 0) (λ t. (length (areas ++ services) ≢ 0) × (t ≡ target areas services))
unfolding target last bearing
target_found [] [] r e = rw e refl
target_found (a ∷ areas) [] r e = rw (e, last_some a areas) ((λ z. omega arith), refl)
target_found areas (s ∷ services) r e = go (bearing (s ∷ services)) refl
  where
    n : length (areas ++ (s ∷ services)) ≢ 0
    n z = omega (arith, length-append areas (s ∷ services))

    go : (ks : List ℕ) → bearing (s ∷ services) ≡ ks → MatchOption r (length (areas ++ (s ∷ services)) ≡ 0) (λ t. (length (areas ++ (s ∷ services)) ≢ 0) × (t ≡ target areas (s ∷ services)))
    go [] k = rw (e, k, last_some s services) (n, refl)
    go (x ∷ ks) k = rw (e, k, last_some x ks) (n, refl)

-- ---- key-free services

both_and : (a b : Bool) → (a && b) ≡ both a b
unfolding both
both_and true b = refl
both_and false b = refl

-- the range of the attributes
pub in_range : (x : ℕ) → (is_le (nat_cmp 9 x) && is_lt (nat_cmp x 24)) ≡ both (ltb 8 x) (ltb x 24)
in_range x = rw (← both_and) (grind (arith, nat_tests))

-- at some codes

pub free_1009 : key_free 0x1009 ≡ true
unfolding key_free both
free_1009 = refl

pub free_1017 : key_free 0x1017 ≡ true
unfolding key_free both
free_1017 = refl

pub bears_1007 : key_free 0x1007 ≡ false
unfolding key_free both
bears_1007 = refl

pub bears_1008 : key_free 0x1008 ≡ false
unfolding key_free both
bears_1008 = refl

pub bears_1019 : key_free 0x1019 ≡ false
unfolding key_free both
bears_1019 = refl
