-- T0: a derivation that answers 0 gives a scheme mark of 1 or 2 and keys of that scheme, 16 or 32 bytes. Assumes nothing.
use mathlib.Core.Path.{◌≡◌, refl, sym, ap, ◌∙◌}
use mathlib.Core.Bool.{Bool, true, false}
use mathlib.Core.List.{List, [], ◌∷◌, ◌++◌}
use mathlib.Core.Logic.{◌⊎◌, inl, inr}
use Prim.Native.Nat.{ℕ, zero, suc, ◌+◌, ◌*◌}
use native.Mathlib.Omega.{arith}
use borrow.Author.Tests.{ne_eqb, eqb-true}
use lib.Dec.{eqb, lit<}
use lib.ListN.{length, replicate, length-append, length-replicate}
use Rattle.cipher.specs.Bytes.{Bytes}
use Rattle.cipher.proofs.ByteLists.{Block, Bytes-nil, Bytes-cons, Bytes-append, Bytes-replicate}
use Rattle.cipher.proofs.Ciphers.{des_under_block, aes_under_block}
use Rattle.answer.specs.Outcome.{first_of}
use Rattle.answer.specs.Outcome.{Row, choose}
use Rattle.answer.specs.Tests.{either}
use Rattle.session.specs.Entries.{Entry, entries, nodes, has}
use Rattle.session.specs.ServiceCode.{bearing}
use Rattle.session.specs.Derivation.{key_length, Derived, turned_down, derived, by_rows, needing, key_of, keys_of, group_des, user_des, derived_des, chain_start, group_aes, individual_key, derived_aes, target, derived_by, chosen, derived_for, derive_rows, derived_before16, with_room, derivation}
use Rattle.session.proofs.Gathering.{missing, needing_missing, missing_first, missing_shape, keys_of_one, keys_long, keys_bytes}
use Rattle.session.proofs.DerivationSteps.{own_fits}

-- what an accepted derivation gives
pub record Given (d : Derived) : Type 0 where
  pub known : ((d.scheme ≡ 1) × (length d.bytes ≡ 16)) ⊎ ((d.scheme ≡ 2) × (length d.bytes ≡ 32))
  pub bytes_are : Bytes d.bytes

abbrev pub Gives : Derived → Type 0
Gives d = d.number ≡ 0 → Given d

-- ---- refusals give nothing

gives_turned : (k n : ℕ) → (k ≡ 0 → ⊥) → Gives (turned_down k n)
unfolding turned_down
gives_turned k n h z = absurd (h z)

gives_choose : (t : Bool) (a b : Derived) → Gives a → Gives b → Gives (choose t a b)
unfolding choose
gives_choose true a b f g = f
gives_choose false a b f g = g

-- what is turned down has its number
gives_number : (k n : ℕ) (d : Derived) → (k ≡ 0 → Gives d) → Gives (choose (eqb k 0) d (turned_down k n))
unfolding choose
gives_number zero n d f = f refl
gives_number (suc k) n d f = let h : (suc k ≡ 0 → ⊥) = λ z. omega arith in rw (ne_eqb (suc k) 0 h) (gives_turned (suc k) n h)

gives_rows : (rows : List Row) (d : Derived) → (first_of rows ≡ 0 → Gives d) → Gives (by_rows rows d)
unfolding by_rows
gives_rows rows d f = gives_number (first_of rows) 0 d f

gives_needing : (es : List Entry) (a : ℕ) (ns : List ℕ) (d : Derived) → ((missing es a ns).number ≡ 0 → Gives d) → Gives (needing es a ns d)
unfolding turned_down missing
gives_needing es a ns d f = rw (needing_missing es a ns d, missing_shape es a ns) (gives_number (missing es a ns).number (missing es a ns).node d f)

-- ---- keys of a scheme

joined : (w : ℕ) (a b : List ℕ) → Block w a → Block w b → Block (w + w) (a ++ b)
joined w a b f g =
    let p = f.long in
    let q = g.long in
    record { long = length-append a b ∙ omega arith; bytes = Bytes-append a b f.bytes g.bytes }

gives_des : (b : List ℕ) → Block 16 b → Gives (derived 1 b)
unfolding derived
gives_des b h z = record { known = inl (refl, h.long); bytes_are = h.bytes }

gives_aes : (b : List ℕ) → Block 32 b → Gives (derived 2 b)
unfolding derived
gives_aes b h z = record { known = inr (refl, h.long); bytes_are = h.bytes }

pub start_block : Block 16 chain_start
unfolding chain_start
start_block =
    let rest : List ℕ = replicate 13 0 ++ (0x80 ∷ []) in
    record {
      long = refl;
      bytes = Bytes-cons 1 (1 ∷ rest) (lit< tt) (Bytes-cons 1 rest (lit< tt) (Bytes-append (replicate 13 0) (0x80 ∷ []) (Bytes-replicate 13 0 (lit< tt)) (Bytes-cons 0x80 [] (lit< tt) Bytes-nil)));
    }

own_block : (individual : List ℕ) → Bytes individual → either (eqb (length individual) 0) (eqb (length individual) 16) ≡ true → Block 16 (individual_key individual)
unfolding individual_key either choose
own_block individual b h = go (eqb (length individual) 0) h
  where
    go : (t : Bool) → either t (eqb (length individual) 16) ≡ true → Block 16 (choose t (replicate 16 0) individual)
    go true h = record { long = length-replicate {A = ℕ} 16 0; bytes = Bytes-replicate 16 0 (lit< tt) }
    go false h = record { long = eqb-true _ _ h; bytes = b }

module _ (keys : List ℕ) (b : Bytes keys) (areas services individual : List ℕ) where
  -- the system key
  system_block : (ns : List ℕ) → (missing (entries keys) 1 (0xFFFF ∷ ns)).number ≡ 0 → Block 8 (key_of (entries keys) 1 0xFFFF)
  unfolding key_length choose
  system_block ns h =
      let z : (missing (entries keys) 1 (0xFFFF ∷ [])).number ≡ 0 = missing_first (entries keys) 1 (0xFFFF ∷ []) ns h in
      rw (← keys_of_one (entries keys) 1 0xFFFF) (record { long = keys_long keys 1 (0xFFFF ∷ []) z; bytes = keys_bytes keys 1 (0xFFFF ∷ []) z b })

  pub des_gives : Gives (derived_des (entries keys) areas services individual)
  unfolding derived_des group_des user_des
  des_gives =
      gives_rows _ _ (λ _. gives_needing (entries keys) 1 (0xFFFF ∷ (areas ++ bearing services)) _
      (λ z. let g = des_under_block (keys_of (entries keys) 1 areas) _ (system_block (areas ++ bearing services) z) in
      gives_des _ (joined 8 _ _ g (des_under_block (keys_of (entries keys) 1 (bearing services)) _ g))))

  module _ (o : Bytes individual) (fits : either (eqb (length individual) 0) (eqb (length individual) 16) ≡ true) where
    pub aes_gives : Gives (derived_aes (entries keys) areas services individual)
    unfolding derived_aes group_aes key_length choose
    aes_gives =
        gives_needing (entries keys) 2 (areas ++ services) _
        (λ z. gives_rows _ _
        (λ _. let k : Block (length (areas ++ services) * 16) (keys_of (entries keys) 2 (areas ++ services)) = record { long = keys_long keys 2 (areas ++ services) z; bytes = keys_bytes keys 2 (areas ++ services) z b } in
        gives_aes _ (joined 16 _ _ (aes_under_block (length (areas ++ services)) (keys_of (entries keys) 2 (areas ++ services)) chain_start k start_block) (own_block individual o fits))))

    by_gives : (scheme : ℕ) → Gives (derived_by scheme (entries keys) areas services individual)
    unfolding derived_by
    by_gives scheme = gives_choose (eqb scheme 1) _ _ des_gives aes_gives

    pub for_gives : (mark : ℕ) → Gives (derived_for mark (entries keys) areas services individual)
    unfolding derived_for chosen
    for_gives mark =
        gives_choose (eqb mark 0) _ _
        (gives_rows _ _ (λ _. gives_choose (has (entries keys) (target areas services) 2) _ _ (by_gives 2)
        (gives_choose (has (entries keys) (target areas services) 1) _ _ (by_gives 1) (gives_turned 4 (target areas services) (λ z. omega arith)))))
        (by_gives mark)

-- ---- T0

module _ (mark : ℕ) (keys areas services individual : List ℕ) (b : Bytes keys) (o : Bytes individual) where
  pub derived_gives : Gives (derived_before16 mark keys areas services individual)
  unfolding derived_before16
  derived_gives =
      gives_rows (derive_rows mark keys areas services individual) _
      (λ z. for_gives keys b (nodes areas) (nodes services) individual o (own_fits mark keys areas services individual z) mark)

  -- room changes nothing of an accepted derivation
  room_accepted : (t : Bool) (d : Derived) → (choose t (turned_down 16 0) d).number ≡ 0 → choose t (turned_down 16 0) d ≡ d
  unfolding choose turned_down
  room_accepted true d h = absurd (omega arith)
  room_accepted false d h = refl

  pub accepted_is : (room : ℕ) → (derivation mark keys areas services individual room).number ≡ 0 → derivation mark keys areas services individual room ≡ derived_before16 mark keys areas services individual
  unfolding derivation with_room
  accepted_is room h = room_accepted _ _ h

  pub derivation_gives : (room : ℕ) → Gives (derivation mark keys areas services individual room)
  derivation_gives room h =
      let e = accepted_is room h in
      rw e (derived_gives (ap (λ (d : Derived). d.number) (sym e) ∙ h))

  -- both ends derive the same, whatever their room
  pub same_derivation : (room room' : ℕ) → (derivation mark keys areas services individual room).number ≡ 0 → (derivation mark keys areas services individual room').number ≡ 0
      → derivation mark keys areas services individual room ≡ derivation mark keys areas services individual room'
  same_derivation room room' h k = accepted_is room h ∙ sym (accepted_is room' k)
