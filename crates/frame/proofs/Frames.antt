-- What a reader and a card can rely on, in both schemes: sealing answers with the sealed data; data opens as a number and a payload exactly if
-- it is their sealing, and is refused exactly if it is the sealing of nothing; the same for response frames. Assumes nothing.
use mathlib.Core.Path.{◌≡◌, refl, sym, ap, ◌∙◌}
use mathlib.Core.Bool.{Bool, true, false}
use mathlib.Core.List.{List}
use mathlib.Core.Logic.{◌↔◌, ◌⊎◌, inl, inr, ⊎_elim}
use Prim.Native.Nat.{ℕ, ◌+◌, ◌-◌, ◌*◌, ◌≤◌, ◌<◌}
use native.Mathlib.Nat.{le_refl}
use native.Mathlib.Omega.{arith}
use lib.Dec.{eqb}
use lib.ListN.{length, drop, get_or}
use Rattle.cipher.specs.Bytes.{Bytes}
use Rattle.cipher.proofs.Numbers.{le_or_lt}
use Rattle.answer.specs.Number.{number_of}
use Rattle.answer.specs.Outcome.{Outcome, refused, acceptance, accepted, padded, choose}
use Rattle.frame.specs.AesFrame.{aes_size, opened_payload}
use Rattle.frame.specs.DesFrame.{des_size, des_plain, payload_of}
use Rattle.frame.specs.Inverse.{Domain, TooLarge, Frames}
use Rattle.frame.specs.Padding.{pad, pad_count}
use Rattle.frame.specs.Scheme.{by_scheme, sealed, sealing, opening, framed, responding, sealed_size, sealed_padding, longest}
use Rattle.frame.proofs.AesTrip.{AesDomain, aes_opens, aes_opens_exactly, aes_refuses_exactly, aes_sealed_long}
use Rattle.frame.proofs.DesSeals.{size_most}
use Rattle.frame.proofs.DesTrip.{DesDomain, des_opens_padded, des_opens, des_opens_exactly, des_refuses_exactly, des_sealed_long}
use Rattle.answer.proofs.Refusals.{refused_number}
use Rattle.answer.proofs.Rows.{choose_keeps}
use Rattle.frame.proofs.Pads.{pad_count_small, sealed_padding_none, length_pad}
use Rattle.frame.proofs.Rooms.{des_short_room, des_means_short, aes_short_room, aes_means_short}
use Rattle.frame.proofs.Schemes.{sealing_known}
use Rattle.frame.proofs.WorkBlocks.{framing_accepted, framing_refused}
use Rattle.frame.proofs.Sealing.{seals, seals_16, seals_only}

-- ---- sealing in the domain adds no padding

whole_sealed : (scheme : ℕ) (c id payload : List ℕ) (code number room : ℕ) → Domain scheme number payload
    → sealing scheme c code number id payload room ≡ padded (sealed_padding scheme (length payload)) (sealed scheme c code number id payload)
    → sealing scheme c code number id payload room ≡ accepted 0 (sealed scheme c code number id payload)
whole_sealed scheme c id payload code number room h e =
    e ∙ ap (λ (p : ℕ). padded p (sealed scheme c code number id payload)) (sealed_padding_none scheme (length payload) h.whole)

-- ---- from what opens where there is room

module _ (scheme : ℕ) (c id d : List ℕ) (code room : ℕ)
    (exactly : (number : ℕ) (payload : List ℕ) → (opening scheme c code id d room ≡ accepted number payload) ↔ (Domain scheme number payload × (length payload ≤ room) × (d ≡ sealed scheme c code number id payload)))
    (refuses : ((opening scheme c code id d room).number ≡ 0 → ⊥) ↔ ((number : ℕ) (payload : List ℕ) → Domain scheme number payload → length payload ≤ room → d ≡ sealed scheme c code number id payload → ⊥))
    (short : (number : ℕ) (payload : List ℕ) → Domain scheme number payload → d ≡ sealed scheme c code number id payload → room < length payload → opening scheme c code id d room ≡ refused 16)
    (arises : (opening scheme c code id d room).number ≡ 16 → ⊥) where
  fits : (number : ℕ) (payload : List ℕ) → Domain scheme number payload → d ≡ sealed scheme c code number id payload → length payload ≤ room
  fits number payload h e =
      ⊎_elim
      (λ (l : length payload ≤ room). l)
      (λ (l : room < length payload). absurd (arises (ap (λ (o : Outcome). o.number) (short number payload h e l) ∙ refused_number 16)))
      (le_or_lt (length payload) room)

  exactly_here : (number : ℕ) (payload : List ℕ) → (opening scheme c code id d room ≡ accepted number payload) ↔ (Domain scheme number payload × (d ≡ sealed scheme c code number id payload))
  exactly_here number payload = (
    λ e. let h = (exactly number payload).0 e in (h.0, h.2),
    λ h. (exactly number payload).1 (h.0, fits number payload h.0 h.1, h.1),
  )

  refuses_here : ((opening scheme c code id d room).number ≡ 0 → ⊥) ↔ ((number : ℕ) (payload : List ℕ) → Domain scheme number payload → d ≡ sealed scheme c code number id payload → ⊥)
  refuses_here = (
    λ h number payload dom e. refuses.0 h number payload dom (fits number payload dom e) e,
    λ nothing. refuses.1 (λ number payload dom l e. nothing number payload dom e),
  )

choose_short : (b : Bool) (n : ℕ) → n ≤ choose b 232 243 → (choose b (des_size n) (n + 10) ≤ 253) × (n ≤ 243)
unfolding choose
choose_short true n h = let m = size_most n h in (omega arith, omega arith)
choose_short false n h = (omega arith, omega arith)

-- ---- DES

module _ (c id : List ℕ) (code : ℕ) (hk : length c ≡ 8) (hi : length id ≡ 6) (bi : Bytes id) (hc : code < 256) where
  to_des : (number : ℕ) (payload : List ℕ) → Domain 1 number payload → DesDomain number payload
  unfolding longest choose
  to_des number payload h = record { small = h.small; short = h.short; whole = h.whole refl; bytes = h.bytes }

  of_des : (number : ℕ) (payload : List ℕ) → DesDomain number payload → Domain 1 number payload
  unfolding longest choose
  of_des number payload h = record { small = h.small; short = h.short; whole = λ e. h.whole; bytes = h.bytes }

  module _ (d : List ℕ) (room : ℕ) (bd : Bytes d) where
    des_exactly : (number : ℕ) (payload : List ℕ) → (opening 1 c code id d room ≡ accepted number payload) ↔ (Domain 1 number payload × (length payload ≤ room) × (d ≡ sealed 1 c code number id payload))
    unfolding opening by_scheme sealed choose
    des_exactly number payload =
        let e = des_opens_exactly c id code room hk hi bi hc d bd number payload in
        (λ q. let h = e.0 q in (of_des number payload h.0, h.1, h.2), λ h. e.1 (to_des number payload h.0, h.1, h.2))

    des_refuses : ((opening 1 c code id d room).number ≡ 0 → ⊥) ↔ ((number : ℕ) (payload : List ℕ) → Domain 1 number payload → length payload ≤ room → d ≡ sealed 1 c code number id payload → ⊥)
    unfolding opening by_scheme sealed choose
    des_refuses =
        let e = des_refuses_exactly c id code room hk hi bi hc d bd in
        (λ q number payload h. e.0 q number payload (to_des number payload h), λ nothing. e.1 (λ number payload h. nothing number payload (of_des number payload h)))

    des_short : (number : ℕ) (payload : List ℕ) → Domain 1 number payload → d ≡ sealed 1 c code number id payload → room < length payload → opening 1 c code id d room ≡ refused 16
    unfolding opening by_scheme sealed choose
    des_short number payload h e l =
        des_short_room c id d code number room (length payload) payload ((des_opens_exactly c id code (length payload) hk hi bi hc d bd number payload).1 (to_des number payload h, le_refl (length payload), e)) l

    des_large : (opening 1 c code id d room).number ≡ 16 → TooLarge 1 c id code d room
    unfolding opening by_scheme sealed choose
    des_large z =
        let m = des_means_short c id d code room z in
        let h = (des_opens_exactly c id code _ hk hi bi hc d bd _ _).0 m.1 in
        record { number = number_of (des_plain c d); payload = payload_of (des_plain c d); inside = of_des _ _ h.0; is = h.2; larger = m.0 }

  des_frames : Frames 1 c id code
  unfolding sealing by_scheme sealed sealed_size longest choose
  des_frames =
      record {
        seals = λ number room payload h l. whole_sealed 1 c id payload code number room h (seals 1 c id payload code number room (inl refl) hi hk h.short l);
        seals_not = λ number room payload h l. seals_16 1 c id payload code number room (inl refl) hi hk h.short l;
        size = λ number payload h. des_sealed_long c id payload code number hk hi;
        opens_exactly = λ d room bd n. exactly_here 1 c id d code room (des_exactly d room bd) (des_refuses d room bd) (des_short d room bd) n;
        refuses_exactly = λ d room bd n. refuses_here 1 c id d code room (des_exactly d room bd) (des_refuses d room bd) (des_short d room bd) n;
        room_exactly = λ d room bd. (des_large d room bd, λ t. ap (λ (o : Outcome). o.number) (des_short d room bd t.number t.payload t.inside t.is t.larger) ∙ refused_number 16);
      }

-- ---- AES

module _ (c id : List ℕ) (code : ℕ) (hc : length c ≡ 36) (bc : Bytes c) (hi : length id ≡ 6) (bi : Bytes id) (ho : code < 256) where
  to_aes : (number : ℕ) (payload : List ℕ) → Domain 2 number payload → AesDomain number payload
  unfolding longest choose
  to_aes number payload h = record { small = h.small; short = h.short; bytes = h.bytes }

  of_aes : (number : ℕ) (payload : List ℕ) → AesDomain number payload → Domain 2 number payload
  unfolding longest choose
  of_aes number payload h = record { small = h.small; short = h.short; whole = λ e. absurd (omega arith); bytes = h.bytes }

  module _ (d : List ℕ) (room : ℕ) (bd : Bytes d) where
    aes_exactly : (number : ℕ) (payload : List ℕ) → (opening 2 c code id d room ≡ accepted number payload) ↔ (Domain 2 number payload × (length payload ≤ room) × (d ≡ sealed 2 c code number id payload))
    unfolding opening by_scheme sealed choose
    aes_exactly number payload =
        let e = aes_opens_exactly c id code room hc bc hi bi ho d bd number payload in
        (λ q. let h = e.0 q in (of_aes number payload h.0, h.1, h.2), λ h. e.1 (to_aes number payload h.0, h.1, h.2))

    aes_refuses : ((opening 2 c code id d room).number ≡ 0 → ⊥) ↔ ((number : ℕ) (payload : List ℕ) → Domain 2 number payload → length payload ≤ room → d ≡ sealed 2 c code number id payload → ⊥)
    unfolding opening by_scheme sealed choose
    aes_refuses =
        let e = aes_refuses_exactly c id code room hc bc hi bi ho d bd in
        (λ q number payload h. e.0 q number payload (to_aes number payload h), λ nothing. e.1 (λ number payload h. nothing number payload (of_aes number payload h)))

    aes_short : (number : ℕ) (payload : List ℕ) → Domain 2 number payload → d ≡ sealed 2 c code number id payload → room < length payload → opening 2 c code id d room ≡ refused 16
    unfolding opening by_scheme sealed choose
    aes_short number payload h e l =
        aes_short_room c id d code number room (length payload) payload ((aes_opens_exactly c id code (length payload) hc bc hi bi ho d bd number payload).1 (to_aes number payload h, le_refl (length payload), e)) l

    aes_large : (opening 2 c code id d room).number ≡ 16 → TooLarge 2 c id code d room
    unfolding opening by_scheme sealed choose
    aes_large z =
        let m = aes_means_short c id d code room z in
        let h = (aes_opens_exactly c id code _ hc bc hi bi ho d bd _ _).0 m.1 in
        record { number = get_or d 0 0 + get_or d 1 0 * 256; payload = opened_payload c code id d; inside = of_aes _ _ h.0; is = h.2; larger = m.0 }

  aes_frames : Frames 2 c id code
  unfolding sealing by_scheme sealed sealed_size longest choose
  aes_frames =
      record {
        seals = λ number room payload h l. whole_sealed 2 c id payload code number room h (seals 2 c id payload code number room (inr refl) hi hc h.short l);
        seals_not = λ number room payload h l. seals_16 2 c id payload code number room (inr refl) hi hc h.short l;
        size = λ number payload h. aes_sealed_long c id payload code number hc hi;
        opens_exactly = λ d room bd n. exactly_here 2 c id d code room (aes_exactly d room bd) (aes_refuses d room bd) (aes_short d room bd) n;
        refuses_exactly = λ d room bd n. refuses_here 2 c id d code room (aes_exactly d room bd) (aes_refuses d room bd) (aes_short d room bd) n;
        room_exactly = λ d room bd. (aes_large d room bd, λ t. ap (λ (o : Outcome). o.number) (aes_short d room bd t.number t.payload t.inside t.is t.larger) ∙ refused_number 16);
      }

-- ---- both

-- credentials of the scheme's length, an ID of 6 bytes, any code
pub frames : (scheme : ℕ) (c id : List ℕ) (code : ℕ) → (scheme ≡ 1) ⊎ (scheme ≡ 2) → length c ≡ choose (eqb scheme 1) 8 36 → Bytes c → length id ≡ 6 → Bytes id → code < 256 → Frames scheme c id code
unfolding choose
frames scheme c id code known hc bc hi bi ho =
    ⊎_elim
    (λ (e : scheme ≡ 1). rw e (des_frames c id code (rw e at hc) hi bi ho))
    (λ (e : scheme ≡ 2). rw e (aes_frames c id code (rw e at hc) bc hi bi ho))
    known

-- what was sealed opens, wherever the payload fits the output
pub opens : (scheme : ℕ) (c id : List ℕ) (code : ℕ) → (scheme ≡ 1) ⊎ (scheme ≡ 2) → length c ≡ choose (eqb scheme 1) 8 36 → Bytes c → length id ≡ 6 → Bytes id → code < 256 → (number room : ℕ) (payload : List ℕ)
    → Domain scheme number payload → length payload ≤ room → opening scheme c code id (sealed scheme c code number id payload) room ≡ accepted number payload
unfolding opening by_scheme sealed choose
opens scheme c id code known hc bc hi bi ho number room payload h l =
    ⊎_elim
    (λ (e : scheme ≡ 1). rw e (des_opens c id code room (rw e at hc) hi bi ho number payload (to_des c id code (rw e at hc) hi bi ho number payload (rw e at h)) l))
    (λ (e : scheme ≡ 2). rw e (aes_opens c id code room (rw e at hc) bc hi bi ho number payload (to_aes c id code (rw e at hc) bc hi bi ho number payload (rw e at h)) l))
    known

-- the size of sealed data goes by lengths alone
pub length_sealed : (scheme : ℕ) (c id payload : List ℕ) (code number : ℕ) → (scheme ≡ 1) ⊎ (scheme ≡ 2) → length id ≡ 6 → length c ≡ choose (eqb scheme 1) 8 36
    → length (sealed scheme c code number id payload) ≡ sealed_size scheme (length payload)
unfolding sealed sealed_size choose
length_sealed scheme c id payload code number known hi hc =
    ⊎_elim
    (λ (e : scheme ≡ 1). rw e (des_sealed_long c id payload code number (rw e at hc) hi))
    (λ (e : scheme ≡ 2). rw e (aes_sealed_long c id payload code number (rw e at hc) hi))
    known

-- sealed data has at most 253 bytes, and a payload at most 243
pub size_short : (scheme n : ℕ) → n ≤ longest scheme → (sealed_size scheme n ≤ 253) × (n ≤ 243)
unfolding sealed_size longest aes_size
size_short scheme n = choose_short (eqb scheme 1) n

pub length_framed : (code : ℕ) (l : List ℕ) → length (framed code l) ≡ length l + 2
unfolding framed
length_framed code l = omega arith

-- a response frame is made of the sealed data, wherever it fits the output, and 16 is the answer elsewhere; what follows its length byte and
-- code opens as above
module _ (scheme : ℕ) (c id : List ℕ) (code : ℕ) (f : Frames scheme c id code) where
  pub responds : (number room : ℕ) (payload : List ℕ) → Domain scheme number payload → sealed_size scheme (length payload) + 2 ≤ room
      → responding scheme c code number id payload room ≡ accepted 0 (framed code (sealed scheme c code number id payload))
  unfolding responding acceptance
  responds number room payload h l =
      let e = f.seals number (room - 2) payload h (omega arith) in
      framing_accepted code _ (ap (λ (o : Outcome). o.number) e) ∙ ap (λ (o : Outcome). padded o.padding (framed code o.bytes)) e

  pub responds_not : (number room : ℕ) (payload : List ℕ) → Domain scheme number payload → 0 < sealed_size scheme (length payload) → room < sealed_size scheme (length payload) + 2
      → responding scheme c code number id payload room ≡ refused 16
  unfolding responding refused
  responds_not number room payload h some l =
      let e = f.seals_not number (room - 2) payload h (omega arith) in
      let n : (sealing scheme c code number id payload (room - 2)).number ≡ 0 → ⊥ = λ z. let q : ◌≡◌ {A = ℕ} 16 0 = ap (λ (o : Outcome). o.number) (sym e) ∙ z in omega arith in
      framing_refused code _ n ∙ e

  pub response_data : (number : ℕ) (payload : List ℕ) → drop 2 (framed code (sealed scheme c code number id payload)) ≡ sealed scheme c code number id payload
  unfolding framed
  response_data number payload = refl

-- sealed data has some bytes
pub size_some : (scheme n : ℕ) → 0 < sealed_size scheme n
unfolding sealed_size des_size aes_size
size_some scheme n = choose_keeps (λ (k : ℕ). 0 < k) (eqb scheme 1) (n + 8 + pad_count (n + 8) + 8) (n + 10) (omega arith) (omega arith)

-- ---- whatever was sealed, of whole blocks or not, opens at 0

module _ (c id : List ℕ) (code : ℕ) (bc : Bytes c) (bi : Bytes id) (ho : code < 256) (number room : ℕ) (payload : List ℕ) (hn : number < 65536) (bp : Bytes payload) where
  des_again : (sealing 1 c code number id payload room).number ≡ 0 → (opening 1 c code id (sealing 1 c code number id payload room).bytes 256).number ≡ 0
  unfolding opening by_scheme sealed longest choose acceptance
  des_again z =
      let s = seals_only 1 c id payload code number room (inl refl) z in
      let l : length (pad payload) ≤ 256 = omega (arith, length_pad payload, pad_count_small (length payload), s.short) in
      rw (seals 1 c id payload code number room (inl refl) s.six s.all s.short s.fits) (ap (λ (o : Outcome). o.number) (des_opens_padded c id payload code number s.all s.six bi ho hn s.short bp 256 l))

  aes_again : (sealing 2 c code number id payload room).number ≡ 0 → (opening 2 c code id (sealing 2 c code number id payload room).bytes 256).number ≡ 0
  unfolding opening by_scheme sealed longest choose acceptance
  aes_again z =
      let s = seals_only 2 c id payload code number room (inr refl) z in
      let l : length payload ≤ 256 = omega (arith, s.short) in
      rw (seals 2 c id payload code number room (inr refl) s.six s.all s.short s.fits)
      (ap (λ (o : Outcome). o.number) (aes_opens c id code 256 s.all bc s.six bi ho number payload (record { small = hn; short = s.short; bytes = bp }) l))

  pub opens_again : (scheme : ℕ) → (sealing scheme c code number id payload room).number ≡ 0 → (opening scheme c code id (sealing scheme c code number id payload room).bytes 256).number ≡ 0
  opens_again scheme z =
      ⊎_elim
      (λ (e : scheme ≡ 1). rw e (des_again (rw e at z)))
      (λ (e : scheme ≡ 2). rw e (aes_again (rw e at z)))
      (sealing_known scheme c id payload code number room z)

-- what follows the length byte and the code of a response frame opens too
module _ (scheme : ℕ) (c id : List ℕ) (code number room : ℕ) (payload : List ℕ) (z : (responding scheme c code number id payload room).number ≡ 0) where
  pub sealed_before : (sealing scheme c code number id payload (room - 2)).number ≡ 0
  unfolding responding
  sealed_before =
      let o : Outcome = sealing scheme c code number id payload (room - 2) in
      ⊎_elim
      (λ (l : 1 ≤ o.number). ap (λ (p : Outcome). p.number) (sym (framing_refused code o (λ e. omega arith))) ∙ z)
      (λ (l : o.number < 1). omega arith)
      (le_or_lt 1 o.number)

  pub is_framed : responding scheme c code number id payload room ≡ padded (sealing scheme c code number id payload (room - 2)).padding (framed code (sealing scheme c code number id payload (room - 2)).bytes)
  unfolding responding
  is_framed = framing_accepted code _ sealed_before

  pub frame_least : 2 ≤ length (responding scheme c code number id payload room).bytes
  unfolding acceptance framed
  frame_least = rw is_framed (omega arith)

  pub frame_opens_again : Bytes c → Bytes id → code < 256 → number < 65536 → Bytes payload → (opening scheme c code id (drop 2 (responding scheme c code number id payload room).bytes) 256).number ≡ 0
  unfolding acceptance framed
  frame_opens_again bc bi ho hn bp = rw is_framed (opens_again c id code bc bi ho number (room - 2) payload hn bp scheme sealed_before)
