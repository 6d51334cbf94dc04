-- DES opening, step by step. Assumes nothing.
use mathlib.Core.Path.{◌≡◌, refl, sym, ap, ap₂, ◌∙◌}
use mathlib.Core.Bool.{Bool, true, false}
use mathlib.Core.List.{List, [], ◌∷◌, ◌++◌}
use Prim.Native.Nat.{ℕ, ◌+◌, ◌-◌, ◌%◌, ◌≤◌, ◌<◌}
use native.Mathlib.Omega.{arith}
use borrow.Author.Tests.{le-ltb, ltb-false}
use lib.Dec.{eqb, ltb, lit<}
use lib.ListN.{length, take, drop, length-drop}
use lib.Seq.{take_all}
use Rattle.cipher.specs.Fips46.{des_decrypt}
use Rattle.cipher.specs.Fold.{under_each_back}
use Rattle.answer.specs.Number.{number_of}
use Rattle.std.specs.Prelude.{Result, Err}
use Rattle.answer.specs.declared.refusal.Refusal.{Refusal}
use Rattle.answer.specs.Refusal.{refusal_number}
use Rattle.answer.specs.Outcome.{Answer, Meets, Row, row, acceptance, accepted, decide, choose, refused, first_of}
use Rattle.answer.specs.Delivery.{handing, delivering, Delivers}
use Rattle.frame.specs.DesFrame.{mac_start, recovered, mac_holds, des_plain, payload_of, des_opening, open_rows, plain_rows}
use Rattle.frame.specs.inner.DesSteps.{ChecksOpenDes, des_accepting}
use Rattle.frame.specs.inner.Response.{checked_delivering, parsed_delivering}
use Rattle.answer.specs.Tests.{isnt, both, same}
use Rattle.answer.proofs.Rows.{AllFalse, numbered, first_passes, either_false, is_number, both_right, right_length, row_meets, decided_meets}
use Rattle.answer.proofs.Pieces.{no_longer}
use Rattle.cipher.proofs.Folds.{back_none}
use Rattle.answer.proofs.Equality.{same_is}

-- the rest of a list, as a part from e to its end
pub rest_part : (l : List ℕ) (e : ℕ) → take (length l - e) (drop e l) ≡ drop e l
rest_part l e = take_all (length l - e) (drop e l) (rw length-drop (omega arith))

-- what is recovered from the MAC is compared with what it started as
pub mac_checked : (code : ℕ) (plain text mac back start : List ℕ) (r : Bool) → text ≡ take (length plain - 8) plain → mac ≡ drop (length plain - 8) plain
    → back ≡ under_each_back des_decrypt 8 text mac → start ≡ mac_start (length plain + 2) code → (r ≡ true → back ≡ start) × (back ≡ start → r ≡ true) → r ≡ mac_holds code plain
unfolding mac_holds recovered
mac_checked code plain text mac back start r et em eb es h = same_is back start r h ∙ ap₂ same (eb ∙ ap₂ (under_each_back des_decrypt 8) et em) es

-- a plain text that is shorter than a MAC has none
pub no_mac : (code : ℕ) (plain : List ℕ) → length plain < 8 → false ≡ mac_holds code plain
unfolding mac_holds recovered mac_start
no_mac code plain h =
    let z : length plain - 8 ≡ 0 = omega arith in
    let b : recovered plain ≡ plain = rw z (back_none des_decrypt 8 plain (lit< tt)) in
    same_is (recovered plain) (mac_start (length plain + 2) code) false (λ e. cc, λ e. let l : length plain ≡ 8 = ap length (sym b ∙ e) in absurd (omega arith))

-- ---- the plain text

-- what the part from the ninth byte on is without its MAC
pub stripped : (plain p : List ℕ) → p ≡ take (length (take (length plain - 8) (drop 8 plain)) - 8) (take (length plain - 8) (drop 8 plain)) → p ≡ payload_of plain
unfolding payload_of
stripped plain p e =
    let l : length (drop 8 plain) - 8 ≡ length plain - 16 = rw length-drop (omega arith) in
    e ∙ rw (rest_part plain 8, l)

-- and how long it is at most
pub short_payload : (plain p : List ℕ) → p ≡ payload_of plain → length plain ≤ 256 → length p ≤ 256
unfolding payload_of
short_payload plain p e h = no_longer (length plain - 16) 256 (drop 8 plain) p e (rw length-drop (omega arith))

-- the row of the MAC, before what is left of an opening
module _ (code room : ℕ) (id plain : List ℕ) where
  pub wrong_mac : mac_holds code plain ≡ false → des_accepting code id plain room ≡ refused 13
  unfolding des_accepting plain_rows decide choose isnt
  wrong_mac h = rw h

  pub right_mac : mac_holds code plain ≡ true → des_accepting code id plain room ≡ parsed_delivering id plain room
  unfolding des_accepting parsed_delivering checked_delivering plain_rows decide choose isnt
  right_mac h = rw h

-- the row of the ID, before the delivery
module _ (number room : ℕ) (found payload id : List ℕ) where
  pub wrong_id : same found id ≡ false → checked_delivering number found payload id room ≡ refused 14
  unfolding checked_delivering decide choose isnt
  wrong_id h = rw h

  pub right_id : same found id ≡ true → checked_delivering number found payload id room ≡ delivering number payload room
  unfolding checked_delivering decide choose isnt
  right_id h = rw h

-- ---- the rows by lengths

-- none holds
pub open_none : (id key sealed : ℕ) → id ≡ 6 → key ≡ 8 → sealed % 8 ≡ 0 → 16 ≤ sealed → sealed ≤ 253 → AllFalse (open_rows id key sealed)
unfolding open_rows
open_none id key sealed i k w m s = (both_right id key 6 8 i k, (right_length (sealed % 8) 0 w, (le-ltb sealed 16 m, (le-ltb 253 sealed s, tt))))

-- the other way round: what the lengths are where none holds
pub record Openable (id key sealed : ℕ) : Type 0 where
  pub rows : AllFalse (open_rows id key sealed)
  pub six : id ≡ 6
  pub eight : key ≡ 8
  pub blocks : sealed % 8 ≡ 0
  pub enough : 16 ≤ sealed
  pub short : sealed ≤ 253

-- none does where the number of the first that does is 0
pub open_passes : (id key sealed k : ℕ) → k ≡ first_of (open_rows id key sealed) → k ≡ 0 → Openable id key sealed
unfolding open_rows numbered both
open_passes id key sealed k e z =
    let a = first_passes (open_rows id key sealed) k refl e z in
    let b = either_false (isnt (eqb id 6)) (isnt (eqb key 8)) a.0 in
    record {
      rows = a;
      six = is_number id 6 b.0;
      eight = is_number key 8 b.1;
      blocks = is_number (sealed % 8) 0 a.1.0;
      enough = ltb-false sealed 16 a.1.1.0;
      short = ltb-false 253 sealed a.1.1.1.0;
    }

-- what is left of an opening goes out with its length
pub accepting_meets : (code : ℕ) (id plain : List ℕ) (room : ℕ) {r : Answer} {before after : List ℕ} → Delivers (des_accepting code id plain room) r before after → length plain ≤ 65535 → Meets (des_accepting code id plain room) r before after
unfolding des_accepting payload_of
accepting_meets code id plain room {r} {before} {after} d h =
    decided_meets (plain_rows code id plain) (number_of plain) (payload_of plain) room d (no_longer (length plain - 16) 65535 (drop 8 plain) (payload_of plain) refl (rw length-drop (omega arith)))

-- the rows by lengths alone, then those of the plain text
pub open_steps : (key id sealed : List ℕ) (code room : ℕ) → des_opening key code id sealed room ≡ decide (open_rows (length id) (length key) (length sealed)) (des_accepting code id (des_plain key sealed) room)
unfolding des_opening open_rows des_accepting plain_rows handing acceptance decide
open_steps key id sealed code room = refl

-- one of them holds
pub open_refused : (key id sealed : List ℕ) (code room : ℕ) (e : Refusal) (out : List ℕ) {r : Answer} → r ≡ Err e → first_of (open_rows (length id) (length key) (length sealed)) ≡ refusal_number e
    → Meets (des_opening key code id sealed room) r out out
open_refused key id sealed code room e out {r} q h = rw (open_steps key id sealed code room) (row_meets (open_rows (length id) (length key) (length sealed)) (des_accepting code id (des_plain key sealed) room) e out q h)

-- a refusal by the lengths, told before anything is decrypted
pub open_not_checked : (id key : List ℕ) (n : ℕ) (e : Refusal) {r : Result (List ℕ × List ℕ) Refusal} → r ≡ Err e → first_of (open_rows (length id) (length key) n) ≡ refusal_number e → ChecksOpenDes id key n r
open_not_checked id key n e {r} q h = rw q h

-- all rows in one list
module _ (key id sealed : List ℕ) (code room : ℕ) where
  abbrev pub all_rows : List Row
  all_rows = open_rows (length id) (length key) (length sealed) ++ (plain_rows code id (des_plain key sealed) ++ (row 16 (ltb room (length (payload_of (des_plain key sealed)))) ∷ []))

  pub by_rows : des_opening key code id sealed room ≡ decide all_rows (accepted (number_of (des_plain key sealed)) (payload_of (des_plain key sealed)))
  unfolding des_opening open_rows plain_rows handing acceptance decide
  by_rows = refl
