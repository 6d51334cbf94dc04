-- What the steps of a derivation answer. Assumes nothing.
use Rattle.std.specs.Prelude.{ℕ, ◌*◌, ◌≡◌, List, [], Option, None, Some, Result, MatchResult, length, take}
use Rattle.std.specs.Iterator.{AlwaysYields}
use Rattle.answer.specs.Outcome.{Row, first_of}
use Rattle.answer.specs.Refusal.{refusal_number, refusal_node}
use Rattle.answer.specs.Scheme.{mark_of}
use Rattle.answer.specs.declared.refusal.Refusal.{Refusal}
use Rattle.answer.specs.declared.scheme.Scheme.{Scheme}
use Rattle.session.specs.Entries.{Entry}
use Rattle.session.specs.Derivation.{Derived, turned_down, needing, key_length, keys_of, derived_by, derived_for}

-- the refusal e of a derivation
unfoldable pub refusing : Refusal → Derived
refusing e = turned_down (refusal_number e) (refusal_node e)

-- r is what the rows say: the first that holds refuses, and names no node; or none holds
abbrev pub Guards : {A : Type 0} → List Row → Result A Refusal → Type 0
Guards rows r = MatchResult r (λ _. first_of rows ≡ 0) (λ e. (first_of rows ≡ refusal_number e) × (refusal_node e ≡ 0))

-- the bytes of an individual key; none where it is absent
abbrev pub bytes_of : Option (List ℕ) → List ℕ
bytes_of None = []
bytes_of (Some k) = k

-- the mark of a scheme that is forced; 0 where none is
abbrev pub forced_mark : Option Scheme → ℕ
forced_mark None = 0
forced_mark (Some s) = mark_of s

-- r is the scheme by which a derivation goes on, or its refusal
abbrev pub Chooses : ℕ → List Entry → List ℕ → List ℕ → Result Scheme Refusal → Type 0
Chooses mark es areas services r = MatchResult r
    (λ s. (individual : List ℕ) → derived_for mark es areas services individual ≡ derived_by (mark_of s) es areas services individual)
    (λ e. (individual : List ℕ) → derived_for mark es areas services individual ≡ refusing e)

-- an iterator s gives the nodes ns, and then no more
pub record Lists {S : Type 0} (steps : S → Option ℕ → S → Type 0) (s : S) (ns : List ℕ) : Type 0 where
  pub runs : AlwaysYields steps (λ x. x) s ns

-- the keys of the nodes ns are the first bytes of w, r of them, as many for each node as its algorithm wants; or the first of the nodes that lacks
-- its key refuses
abbrev pub Gathers : List Entry → ℕ → List ℕ → Result ℕ Refusal → List ℕ → Type 0
Gathers es algorithm ns r w = MatchResult r (λ size. ((d : Derived) → needing es algorithm ns d ≡ d) × (size ≡ length ns * key_length algorithm) × (take size w ≡ keys_of es algorithm ns)) (λ e. (d : Derived) → needing es algorithm ns d ≡ refusing e)
