-- Authentication 2, step by step. Assumes nothing.
use mathlib.Core.Path.{◌≡◌, refl}
use mathlib.Core.Bool.{true, false}
use mathlib.Core.List.{List, [], ◌∷◌}
use Prim.Native.Nat.{ℕ, ◌+◌, ◌-◌, ◌%◌, ◌≤◌, ◌<◌}
use native.Mathlib.Omega.{arith}
use borrow.Author.Tests.{lt-ltb, le-ltb, ltb-false}
use lib.Dec.{ltb, lit<}
use lib.ListN.{length, take}
use Rattle.frame.specs.Authentication2.{auth2_code, auth2_sealed, auth2_size, auth2_seal_rows, auth2_sealing, auth2_open_rows, auth2_accepting}
use Rattle.answer.specs.Delivery.{delivering, Delivers}
use Rattle.frame.specs.DesFrame.{mac_holds}
use Rattle.answer.specs.Outcome.{Answer, Meets, refused, padded, row, choose, decide, first_of}
use Rattle.frame.specs.Padding.{pad_count}
use Rattle.answer.specs.Tests.{isnt, either, both}
use Rattle.answer.proofs.Rows.{AllFalse, numbered, first_passes, is_number, decide_false, right_length, decided_meets}
use Rattle.answer.proofs.Refusals.{Whole, zero_passes, acceptance_whole, decide_whole}
use Rattle.answer.proofs.Pieces.{no_longer}

-- ---- sealing

pub short_padded : (n : ℕ) → n ≤ 240 → n + pad_count n ≤ 240
unfolding pad_count
short_padded n h = omega arith

-- what holds where no row by lengths does
pub record Auth2Sealable (key payload : ℕ) : Type 0 where
  pub rows : AllFalse (auth2_seal_rows key payload)
  pub eight : key ≡ 8
  pub short : payload + pad_count payload ≤ 240

-- none does where the number of the first that does is 0
pub auth2_seal_passes : (key payload k : ℕ) → k ≡ first_of (auth2_seal_rows key payload) → k ≡ 0 → Auth2Sealable key payload
unfolding auth2_seal_rows numbered both
auth2_seal_passes key payload k e z =
    let a = first_passes (auth2_seal_rows key payload) k refl e z in
    record { rows = a; eight = is_number key 8 a.0; short = ltb-false 240 (payload + pad_count payload) a.1.0 }

-- the rows by lengths alone, then 16
pub auth2_seal_steps : (key payload : List ℕ) (room : ℕ)
    → auth2_sealing key payload room ≡ decide (auth2_seal_rows (length key) (length payload)) (decide (row 16 (ltb room (auth2_size (length payload))) ∷ []) (padded (pad_count (length payload)) (auth2_sealed key payload)))
unfolding auth2_sealing auth2_seal_rows decide
auth2_seal_steps key payload room = refl

pub auth2_seal_whole : (key payload : List ℕ) (room : ℕ) → Whole (auth2_sealing key payload room)
unfolding auth2_sealing
auth2_seal_whole key payload room = decide_whole _ _ (acceptance_whole 0 _ _)

-- where it answers 0, it answers with the sealed data
pub auth2_seals_only : (key payload : List ℕ) (room : ℕ) → (auth2_sealing key payload room).number ≡ 0 → auth2_sealing key payload room ≡ padded (pad_count (length payload)) (auth2_sealed key payload)
unfolding auth2_sealing auth2_seal_rows
auth2_seals_only key payload room z = decide_false _ _ (zero_passes _ _ (lit< tt, (lit< tt, (lit< tt, tt))) z)

-- ---- opening

-- no row by lengths holds
pub auth2_open_none : (key sealed : ℕ) → key ≡ 8 → sealed % 8 ≡ 0 → sealed ≤ 253 → AllFalse (auth2_open_rows key sealed)
unfolding auth2_open_rows
auth2_open_none key sealed k w s = (right_length key 8 k, (right_length (sealed % 8) 0 w, (le-ltb 253 sealed s, tt)))

-- the other way round: what the lengths are where none holds
pub record Auth2Openable (key sealed : ℕ) : Type 0 where
  pub rows : AllFalse (auth2_open_rows key sealed)
  pub eight : key ≡ 8
  pub blocks : sealed % 8 ≡ 0
  pub short : sealed ≤ 253

-- none does where the number of the first that does is 0
pub auth2_open_passes : (key sealed k : ℕ) → k ≡ first_of (auth2_open_rows key sealed) → k ≡ 0 → Auth2Openable key sealed
unfolding auth2_open_rows numbered both
auth2_open_passes key sealed k e z =
    let a = first_passes (auth2_open_rows key sealed) k refl e z in
    record { rows = a; eight = is_number key 8 a.0; blocks = is_number (sealed % 8) 0 a.1.0; short = ltb-false 253 sealed a.1.1.0 }

module _ (plain : List ℕ) (room : ℕ) where
  pub no_block : length plain < 16 → auth2_accepting plain room ≡ refused 13
  unfolding auth2_accepting decide choose either
  no_block h = rw (lt-ltb (length plain) 16 h)

  module _ (h : 16 ≤ length plain) where
    pub wrong_mac : mac_holds auth2_code plain ≡ false → auth2_accepting plain room ≡ refused 13
    unfolding auth2_accepting decide choose either isnt
    wrong_mac m = rw (le-ltb (length plain) 16 h, m)

    pub right_mac : mac_holds auth2_code plain ≡ true → auth2_accepting plain room ≡ delivering 0 (take (length plain - 8) plain) room
    unfolding auth2_accepting decide choose either isnt
    right_mac m = rw (le-ltb (length plain) 16 h, m)

  -- all but the MAC goes out with its length
  pub auth2_accepting_meets : {r : Answer} {before after : List ℕ} → Delivers (auth2_accepting plain room) r before after → length plain ≤ 65535 → Meets (auth2_accepting plain room) r before after
  unfolding auth2_accepting
  auth2_accepting_meets {r} {before} {after} d h = decided_meets _ 0 (take (length plain - 8) plain) room d (no_longer (length plain - 8) 65535 plain (take (length plain - 8) plain) refl h)
