-- docs/RULES.md, Layouts: lists as a caller hands them over. A key entry is 19 bytes: node 2 (low byte first), algorithm 1 (1 DES, 2 AES), key 16;
-- DES uses the first 8. A node is 2 bytes, the low one first. Assumes nothing.
use Rattle.std.specs.Prelude.{ℕ, zero, suc, ◌/◌, Bool, false, List, [], ◌∷◌, eqb, ltb, length, take, drop, get_or}
use Rattle.answer.specs.Number.{number_of}
use Rattle.answer.specs.Outcome.{choose}
use Rattle.answer.specs.Tests.{isnt, either, both}

pub record Entry : Type 0 where
  pub node : ℕ
  pub algorithm : ℕ
  pub key : List ℕ

-- the first entry of a list
unfoldable pub entry_of : List ℕ → Entry
entry_of l = record { node = number_of l; algorithm = get_or l 2 0; key = take 16 (drop 3 l) }

unfoldable pub first_entries : ℕ → List ℕ → List Entry
first_entries zero l = []
first_entries (suc n) l = entry_of l ∷ first_entries n (drop 19 l)

unfoldable pub entries : List ℕ → List Entry
entries l = first_entries (length l / 19) l

unfoldable pub first_nodes : ℕ → List ℕ → List ℕ
first_nodes zero l = []
first_nodes (suc n) l = number_of l ∷ first_nodes n (drop 2 l)

unfoldable pub nodes : List ℕ → List ℕ
nodes l = first_nodes (length l / 2) l

-- ---- the search for a key

unfoldable pub is_for : Entry → ℕ → ℕ → Bool
is_for e node algorithm = both (eqb e.node node) (eqb e.algorithm algorithm)

-- the place of the first entry of that node and algorithm; the number of entries where there is none
unfoldable pub place : List Entry → ℕ → ℕ → ℕ
place [] node algorithm = 0
place (e ∷ es) node algorithm = choose (is_for e node algorithm) 0 (suc (place es node algorithm))

unfoldable pub has : List Entry → ℕ → ℕ → Bool
has es node algorithm = ltb (place es node algorithm) (length es)

-- how many entries a search that stops looks at: the entry's place from 1, or all of them where it is not there
unfoldable pub looked_at : List Entry → ℕ → ℕ → ℕ
looked_at es node algorithm = choose (has es node algorithm) (suc (place es node algorithm)) (length es)

-- the key at a place
unfoldable pub key_at : List Entry → ℕ → List ℕ
key_at [] i = []
key_at (e ∷ es) zero = e.key
key_at (e ∷ es) (suc i) = key_at es i

-- ---- what the rows 17 and 2 ask of the entries

-- some entry has an unknown algorithm
unfoldable pub unknown_algorithm : List Entry → Bool
unknown_algorithm [] = false
unknown_algorithm (e ∷ es) = either (isnt (either (eqb e.algorithm 1) (eqb e.algorithm 2))) (unknown_algorithm es)

-- two entries have the same node and algorithm
unfoldable pub twice : List Entry → Bool
twice [] = false
twice (e ∷ es) = either (has es e.node e.algorithm) (twice es)
