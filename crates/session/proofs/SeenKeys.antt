-- What a derivation sees of the key entries: for each node and algorithm, whether there is a key, and the key. And the number of a derivation
-- past the rows 17, 1 and 2, with room. Assumes nothing.
use mathlib.Core.Path.{◌≡◌, refl, sym, ap, ap₂, ◌∙◌}
use mathlib.Core.Bool.{Bool, true, false}
use mathlib.Core.List.{List, [], ◌∷◌, ◌++◌}
use Prim.Native.Nat.{ℕ, zero, suc, ◌≤◌}
use native.Mathlib.Omega.{arith}
use borrow.Author.Tests.{ltb-false, le-ltb}
use lib.Dec.{eqb}
use lib.ListN.{length}
use lib.Seq.{take-nil}
use Rattle.answer.specs.Outcome.{choose, first_of}
use Rattle.session.specs.Entries.{Entry, entries, nodes, place, has, key_at}
use Rattle.session.specs.ServiceCode.{bearing}
use Rattle.session.specs.Derivation.{other, key_length, Derived, turned_down, by_rows, lacks, needing, key_of, keys_of, group_des, user_des, derived_des, group_aes, derived_aes, target, derived_by, chosen, derived_for, derive_rows, derived_before16, with_room, derivation}
use Rattle.session.proofs.DerivationSteps.{rows_pass}

-- two lists of entries in which each node and algorithm is there in both or in neither, and has the same key where it is there
pub record Alike (es fs : List Entry) : Type 0 where
  pub there : (node algorithm : ℕ) → has es node algorithm ≡ has fs node algorithm
  pub key : (node algorithm : ℕ) → has es node algorithm ≡ true → key_of es algorithm node ≡ key_of fs algorithm node

-- a node that is not there has the empty string for a key
key_beyond : (es : List Entry) (i : ℕ) → length es ≤ i → key_at es i ≡ []
unfolding key_at
key_beyond [] i h = refl
key_beyond (e ∷ es) zero h = absurd (omega arith)
key_beyond (e ∷ es) (suc i) h = key_beyond es i (omega arith)

pub no_key : (es : List Entry) (node algorithm : ℕ) → has es node algorithm ≡ false → key_of es algorithm node ≡ []
unfolding has key_of
no_key es node algorithm h = rw (key_beyond es (place es node algorithm) (ltb-false _ _ h)) (take-nil (key_length algorithm))

module _ (es fs : List Entry) (same : Alike es fs) where
  -- whether it is there or not
  same_key : (algorithm node : ℕ) → key_of es algorithm node ≡ key_of fs algorithm node
  same_key algorithm node = go (has es node algorithm) refl
    where
      go : (t : Bool) → has es node algorithm ≡ t → key_of es algorithm node ≡ key_of fs algorithm node
      go true e = same.key node algorithm e
      go false e = no_key es node algorithm e ∙ sym (no_key fs node algorithm (sym (same.there node algorithm) ∙ e))

  same_keys : (algorithm : ℕ) (ns : List ℕ) → keys_of es algorithm ns ≡ keys_of fs algorithm ns
  unfolding keys_of
  same_keys algorithm [] = refl
  same_keys algorithm (n ∷ ns) = ap₂ ◌++◌ (same_key algorithm n) (same_keys algorithm ns)

  same_lack : (node algorithm : ℕ) → lacks es node algorithm ≡ lacks fs node algorithm
  unfolding lacks
  same_lack node algorithm = ap (λ (t : Bool). choose t (turned_down 5 0) (turned_down 4 node)) (same.there node (other algorithm))

  same_needing : (algorithm : ℕ) (ns : List ℕ) (d : Derived) → needing es algorithm ns d ≡ needing fs algorithm ns d
  unfolding needing
  same_needing algorithm [] d = refl
  same_needing algorithm (n ∷ ns) d = rw (same.there n algorithm, same_needing algorithm ns d, same_lack n algorithm)

  same_des : (areas services individual : List ℕ) → derived_des es areas services individual ≡ derived_des fs areas services individual
  unfolding derived_des group_des user_des
  same_des areas services individual =
      rw (same_keys 1 areas, same_keys 1 (bearing services), same_key 1 0xFFFF) (ap (by_rows _) (same_needing 1 (0xFFFF ∷ (areas ++ bearing services)) _))

  same_aes : (areas services individual : List ℕ) → derived_aes es areas services individual ≡ derived_aes fs areas services individual
  unfolding derived_aes group_aes
  same_aes areas services individual = rw (same_keys 2 (areas ++ services)) (same_needing 2 (areas ++ services) _)

  same_by : (scheme : ℕ) (areas services individual : List ℕ) → derived_by scheme es areas services individual ≡ derived_by scheme fs areas services individual
  unfolding derived_by
  same_by scheme areas services individual = ap₂ (choose (eqb scheme 1)) (same_des areas services individual) (same_aes areas services individual)

  same_chosen : (areas services individual : List ℕ) → chosen es areas services individual ≡ chosen fs areas services individual
  unfolding chosen
  same_chosen areas services individual =
      rw (same.there (target areas services) 2, same.there (target areas services) 1, same_by 2 areas services individual, same_by 1 areas services individual)

  -- a derivation sees no more of the entries
  pub same_for : (mark : ℕ) (areas services individual : List ℕ) → derived_for mark es areas services individual ≡ derived_for mark fs areas services individual
  unfolding derived_for
  same_for mark areas services individual = ap₂ (choose (eqb mark 0)) (same_chosen areas services individual) (same_by mark areas services individual)

-- ---- past the rows 17, 1 and 2

module _ (mark : ℕ) (keys areas services individual : List ℕ) (room : ℕ) (passed : first_of (derive_rows mark keys areas services individual) ≡ 0)
    (fits : length (derived_for mark (entries keys) (nodes areas) (nodes services) individual).bytes ≤ room) where
  pub derivation_is : derivation mark keys areas services individual room ≡ derived_for mark (entries keys) (nodes areas) (nodes services) individual
  unfolding derivation derived_before16 with_room choose
  derivation_is =
      rw (rows_pass (derive_rows mark keys areas services individual) (derived_for mark (entries keys) (nodes areas) (nodes services) individual) passed, le-ltb room _ fits)

  pub derivation_number : (derivation mark keys areas services individual room).number ≡ (derived_for mark (entries keys) (nodes areas) (nodes services) individual).number
  derivation_number = ap (λ (d : Derived). d.number) derivation_is
