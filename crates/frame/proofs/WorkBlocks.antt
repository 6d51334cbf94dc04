-- Sealing into a work block, which is a check of lengths and then a writing; and what was sealed there and goes out last: the sealing, and the
-- response frame around it. Assumes nothing.
use mathlib.Core.Path.{◌≡◌, refl, sym, ap, ◌∙◌}
use mathlib.Core.List.{List, [], ◌∷◌, ◌++◌, append_assoc}
use mathlib.Core.Bool.{true}
use mathlib.Core.Logic.{⊎_elim}
use Prim.Native.Nat.{ℕ, suc, ◌+◌, ◌-◌, ◌≤◌, ◌<◌}
use native.Mathlib.Omega.{arith}
use borrow.Author.Tests.{ne_eqb}
use lib.Dec.{ltb}
use lib.ListN.{length, take, drop}
use lib.Seq.{take_at}
use Rattle.cipher.proofs.Numbers.{le_or_lt}
use Rattle.std.specs.Prelude.{Result, Ok, Err}
use Rattle.answer.specs.declared.refusal.Refusal.{Refusal}
use Rattle.answer.specs.Refusal.{refusal_number}
use Rattle.answer.specs.Delivery.{handing, Delivers}
use Rattle.answer.specs.Outcome.{Answer, Outcome, Row, Meets, refused, acceptance, accepted, padded, row, choose, decide, first_of, over}
use Rattle.answer.proofs.Outputs.{front}
use Rattle.answer.proofs.Rows.{numbered, decide_false, first_refuses, first_passes, refusal_some, err_meets, delivers_meets, no_room, room_enough}
use Rattle.frame.specs.AesFrame.{aes_sealed, aes_size, aes_seal_rows}
use Rattle.frame.specs.DesFrame.{des_sealed, des_size, seal_rows}
use Rattle.frame.specs.declared.sealed.Sealed.{Sealed}
use Rattle.frame.specs.declared.des.SecureResponseHeader.{SecureResponseHeader}
use Rattle.frame.specs.declared.v2_aes.Credentials.{Credentials}
use Rattle.frame.specs.inner.AesSteps.{bytes_of, ChecksAes}
use Rattle.frame.specs.inner.DesSteps.{ChecksDes}
use Rattle.frame.specs.inner.WorkBlock.{WritesSealed, SealsInto}
use Rattle.frame.specs.Padding.{pad_count}
use Rattle.frame.specs.Scheme.{by_scheme, sealing, framed, framing, responding}
use Rattle.frame.proofs.AesSeals.{aes_seal_steps}
use Rattle.frame.proofs.DesSeals.{seal_steps}

-- 16 by a size that is the string's
sized_handing : (size room p : ℕ) (b : List ℕ) → size ≡ length b → decide (row 16 (ltb room size) ∷ []) (padded p b) ≡ handing (padded p b) room
unfolding handing acceptance
sized_handing size room p b e = ap (λ (k : ℕ). decide (row 16 (ltb room k) ∷ []) (padded p b)) e

-- ---- the frame around a sealing

-- a refusal stays
pub framing_refused : (code : ℕ) (o : Outcome) → (o.number ≡ 0 → ⊥) → framing code o ≡ o
unfolding framing choose
framing_refused code o h = rw (ne_eqb o.number 0 h)

pub framing_accepted : (code : ℕ) (o : Outcome) → o.number ≡ 0 → framing code o ≡ padded o.padding (framed code o.bytes)
unfolding framing choose
framing_accepted code o h = rw h

pub framing_refusal : (code k : ℕ) → (k ≡ 0 → ⊥) → framing code (refused k) ≡ refused k
unfolding refused
framing_refusal code k h = framing_refused code (refused k) h

framing_acceptance : (code p : ℕ) (b : List ℕ) → framing code (padded p b) ≡ padded p (framed code b)
unfolding acceptance
framing_acceptance code p b = framing_accepted code (padded p b) refl

-- what fits two bytes less of the output fits it with its frame
framing_handing : (code room p : ℕ) (b : List ℕ) → 0 < length b → framing code (handing (padded p b) (room - 2)) ≡ handing (padded p (framed code b)) room
unfolding framed
framing_handing code room p b some =
    ⊎_elim
    (λ (h : length b + 2 ≤ room). ap (framing code) (room_enough 0 p b (room - 2) (omega arith)) ∙ framing_acceptance code p b ∙ sym (room_enough 0 p (framed code b) room (omega arith)))
    (λ (h : room < length b + 2).
    ap (framing code) (no_room 0 p b (room - 2) (omega arith)) ∙ framing_refusal code 16 (λ e. omega arith) ∙ sym (no_room 0 p (framed code b) room (omega arith)))
    (le_or_lt (length b + 2) room)

-- ---- sealing into a work block: a check of lengths, and a writing where it passes

-- it was refused by lengths
pub not_sealed : (rs : List Row) (b : List ℕ) (size p : ℕ) (e : Refusal) (w : List ℕ) {r : Result Sealed Refusal} → r ≡ Err e → first_of rs ≡ refusal_number e → SealsInto rs b size p r w w
not_sealed rs b size p e w {r} q h = rw q h

-- it passed, and was written
pub sealed_into : (rs : List Row) (b : List ℕ) (size p : ℕ) (d : Sealed) (z w : List ℕ) → first_of rs ≡ 0 → WritesSealed b size p d z w → SealsInto rs b size p (Ok d) z w
sealed_into rs b size p d z w h s = (h, s.0, omega arith, s.2, s.3, s.4)

-- and the other way round: no fact of the writing is lost
pub written_of_sealed : (rs : List Row) (b : List ℕ) (size p : ℕ) (d : Sealed) (z w : List ℕ) → SealsInto rs b size p (Ok d) z w → (first_of rs ≡ 0) × WritesSealed b size p d z w
written_of_sealed rs b size p d z w s = (s.0, (s.1, omega arith, s.3, s.4, s.5))

-- what is written is sealed under what was checked
module _ (code number : ℕ) (id c payload : List ℕ) (size p : ℕ) (d : Sealed) (z w : List ℕ) where
  pub des_sealed_into : (k : SecureResponseHeader × List ℕ) → ChecksDes number id c (length payload) (Ok k)
      → WritesSealed (des_sealed k.1 code k.0.transaction_number k.0.transaction_id payload) size p d z w
      → SealsInto (seal_rows (length id) (length c) (length payload)) (des_sealed c code number id payload) size p (Ok d) z w
  des_sealed_into k h s = sealed_into (seal_rows (length id) (length c) (length payload)) (des_sealed c code number id payload) size p d z w h.0 (rw (h.2, h.3, h.4) at s)

  pub aes_sealed_into : (k : List ℕ × Credentials) → ChecksAes id c (length payload) (Ok k)
      → WritesSealed (aes_sealed (bytes_of k.1) code number k.0 payload) size p d z w
      → SealsInto (aes_seal_rows (length id) (length c) (length payload)) (aes_sealed c code number id payload) size p (Ok d) z w
  aes_sealed_into k h s = sealed_into (aes_seal_rows (length id) (length c) (length payload)) (aes_sealed c code number id payload) size p d z w h.0 (rw (h.2, h.3) at s)

-- ---- what goes out

-- rows by lengths, then 16 by a size, then the sealed data b with p bytes of padding
module _ (rs : List Row) (b : List ℕ) (size p : ℕ) where
  abbrev pub sealing_of : ℕ → Outcome
  sealing_of room = decide rs (decide (row 16 (ltb room size) ∷ []) (padded p b))

  -- a row by lengths holds, also in a frame
  pub refused_frame : (code room : ℕ) (e : Refusal) (out : List ℕ) {r : Answer} → r ≡ Err e → first_of rs ≡ refusal_number e → Meets (framing code (sealing_of room)) r out out
  refused_frame code room e out {r} q h =
      rw (first_refuses rs (decide (row 16 (ltb room size) ∷ []) (padded p b)) (refusal_number e) (sym h) (refusal_some e), framing_refusal code (refusal_number e) (refusal_some e)) (err_meets e out q)

  -- none does
  passed : numbered rs ≡ true → first_of rs ≡ 0 → (o : Outcome) → decide rs o ≡ o
  passed some h o = decide_false rs o (first_passes rs 0 some (sym h) refl)

  -- the bytes that were sealed over the front of the work block z are delivered, with their padding
  module _ (some : numbered rs ≡ true) (d : Sealed) (z w : List ℕ) (s : SealsInto rs b size p (Ok d) z w) (room : ℕ) {r : Answer} {before after : List ℕ} where
    pub delivered : Delivers (handing (padded d.padding (take d.size w)) room) r before after → Meets (sealing_of room) r before after
    delivered m =
        let f : take d.size w ≡ b = front b z w d.size (sym (s.1 ∙ s.3)) s.4 in
        let l : length b ≤ 65535 = omega arith in
        rw (passed some s.0 (decide (row 16 (ltb room size) ∷ []) (padded p b)), sized_handing size room p b s.3) (delivers_meets 0 p b room (rw (f, s.5) at m) l)

    -- and in a frame: w' is the work block, which has length byte and code before w
    pub delivered_frame : (code : ℕ) (w' : List ℕ) → 0 < size → take (d.size + 2) w' ≡ framed code b → Delivers (handing (padded d.padding (take (d.size + 2) w')) room) r before after
        → Meets (framing code (sealing_of (room - 2))) r before after
    unfolding framed
    delivered_frame code w' more e m =
        let l : length (framed code b) ≤ 65535 = omega arith in
        rw (passed some s.0 (decide (row 16 (ltb (room - 2) size) ∷ []) (padded p b)), sized_handing size (room - 2) p b s.3, framing_handing code room p b (omega arith))
        (delivers_meets 0 p (framed code b) room (rw (e, s.5) at m) l)

-- length byte and code stand before the sealed data b, which was written from the third byte on
pub frame_front : (n code : ℕ) (b w x last rest w' : List ℕ) → n ≡ length b → 2 ≤ length w → last ≡ over b x → w' ≡ over ((n + 2) ∷ code ∷ []) (take 2 w ++ (last ++ rest)) → take (n + 2) w' ≡ framed code b
unfolding over framed
frame_front n code b [] x last rest w' e h el ew = absurd (omega arith)
frame_front n code b (p ∷ []) x last rest w' e h el ew = absurd (omega arith)
frame_front n code b (p ∷ q ∷ w) x last rest w' e h el ew =
    let k : n + 2 ≡ suc (suc n) = omega arith in
    ap (take (n + 2)) ew
    ∙ rw (k, el, append_assoc b (drop (length b) x) rest)
    (ap (λ (l : List ℕ). suc (suc n) ∷ code ∷ l) (take_at b (drop (length b) x ++ rest) n (sym e)) ∙ ap (λ (m : ℕ). m ∷ code ∷ b) (omega (arith, e)))

-- ---- the frames of the schemes, in steps

module _ (c id payload : List ℕ) (code number room : ℕ) where
  pub des_frame_steps : responding 1 c code number id payload room
      ≡ framing code (decide (seal_rows (length id) (length c) (length payload)) (decide (row 16 (ltb (room - 2) (des_size (length payload))) ∷ []) (padded (pad_count (length payload + 8)) (des_sealed c code number id payload))))
  unfolding responding sealing by_scheme choose
  des_frame_steps = ap (framing code) (seal_steps c id payload code number (room - 2))

  pub aes_frame_steps : responding 2 c code number id payload room
      ≡ framing code (decide (aes_seal_rows (length id) (length c) (length payload)) (decide (row 16 (ltb (room - 2) (aes_size (length payload))) ∷ []) (accepted 0 (aes_sealed c code number id payload))))
  unfolding responding sealing by_scheme choose
  aes_frame_steps = ap (framing code) (aes_seal_steps c id payload code number (room - 2))
