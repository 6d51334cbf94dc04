-- Statement 3, proved: what two ends with the same derived keys agree on. Assumes nothing.
use mathlib.Core.Path.{◌≡◌, refl, sym, ap, ◌∙◌, subst}
use mathlib.Core.List.{List}
use mathlib.Core.Logic.{◌↔◌, inl, inr, ⊎_elim}
use Prim.Native.Nat.{ℕ, ◌+◌, ◌≤◌, ◌<◌}
use native.Mathlib.Omega.{arith}
use lib.Dec.{eqb}
use lib.ListN.{length, length-append}
use Rattle.cipher.specs.Bytes.{Bytes}
use Rattle.cipher.proofs.ByteLists.{Block, Bytes-append}
use Rattle.cipher.proofs.Numbers.{le_or_lt}
use Rattle.frame.specs.Inverse.{Domain, Frames}
use Rattle.answer.specs.Outcome.{Outcome, accepted, choose}
use Rattle.frame.specs.Scheme.{sealed, sealing, framed, responding, sealed_size}
use Rattle.frame.proofs.Frames.{frames, responds, responds_not, size_some}
use Rattle.answer.proofs.Refusals.{refused_number}
use Rattle.agreement.specs.Agreement.{Fits, Fixed, Inputs, made_1a, read1, made_2a, read2, made_1b, made_2b, credentials, End, reader, card, Agreement, Statement3}
use Rattle.session.specs.Challenge.{block_size, under_alpha, under_beta, checking_1b, checking_2b, session_keys, deriving_session_keys}
use Rattle.session.specs.Derivation.{Derived, derivation}
use Rattle.session.proofs.AcceptedDerivation.{Given, derivation_gives, same_derivation}
use Rattle.session.proofs.Exchanges as two
use Rattle.agreement.proofs.Messages.{zero_of, bytes_of}

fixed_block : (n : ℕ) (l : List ℕ) → Fixed n l → Block n l
fixed_block n l f = record { long = f.0; bytes = f.1 }

-- both ends have derived d
module _ (d : Derived) (idm random1 random2 c3 id key : List ℕ) (code : ℕ) (e : two.Ends d.scheme d.bytes idm) (i : Inputs d.scheme idm random1 random2 c3 id key code) where
  abbrev s : ℕ
  s = d.scheme

  abbrev keys : List ℕ
  keys = d.bytes

  g1 : Block (block_size s) random1
  g1 = fixed_block _ _ i.random1_is

  g2 : Block (block_size s) random2
  g2 = fixed_block _ _ i.random2_is

  g3 : Block 4 c3
  g3 = fixed_block 4 c3 i.c3_is

  -- ---- random 1

  abbrev A1 : ℕ → Outcome
  A1 a = made_1a d d idm random1 random2 c3 id key code a

  abbrev R1 : ℕ → ℕ → Outcome
  R1 a b = read1 d d idm random1 random2 c3 id key code a b

  module _ (a b : ℕ) (fa : Fits (A1 a)) (fb : Fits (R1 a b)) where
    room_a1 : block_size s ≤ a
    room_a1 = two.room_1a s keys idm e random1 g1 a fa

    made_1a_lem : A1 a ≡ accepted 0 (under_alpha s keys idm random1)
    made_1a_lem = two.makes_1a s keys idm e random1 g1 a room_a1

    sent_1a : Block (block_size s) (A1 a).bytes
    sent_1a = rw (bytes_of _ _ made_1a_lem) ((two.alpha_undone s keys idm e).enc random1 g1)

    room_b1 : block_size s ≤ b
    room_b1 = two.room_read_1a s keys idm e (A1 a).bytes sent_1a b fb

    card_reads : ((A1 a).number ≡ 0) × (R1 a b ≡ accepted 0 random1)
    card_reads = (zero_of _ _ made_1a_lem, two.reads_1a s keys idm e random1 a b g1 room_a1 room_b1)

    read_1_block : Block (block_size s) (R1 a b).bytes
    read_1_block = rw (bytes_of _ _ card_reads.1) g1

    reader_accepts : (r : ℕ) → Fits (made_1b d d idm random1 random2 c3 id key code a b r)
        → ((made_1b d d idm random1 random2 c3 id key code a b r).number ≡ 0) × ((x : List ℕ) → ((checking_1b s keys idm c3 random1 x).number ≡ 0) ↔ (x ≡ (made_1b d d idm random1 random2 c3 id key code a b r).bytes))
    reader_accepts r fr =
        let room : block_size s ≤ r = two.room_1b s keys idm e c3 g3 (R1 a b).bytes read_1_block r fr in
        let m = two.answers_1b s keys idm e c3 g3 random1 a b r g1 room_a1 room_b1 room in
        let w = bytes_of _ _ m in (
          zero_of _ _ m,
          λ x. let k = two.checks_1b s keys idm e c3 g3 random1 x g1 in (λ z. k.0 z ∙ sym w, λ q. zero_of _ _ (k.1 (q ∙ w))),
        )

  -- ---- random 2

  abbrev A2 : ℕ → Outcome
  A2 a = made_2a d d idm random1 random2 c3 id key code a

  abbrev R2 : ℕ → ℕ → Outcome
  R2 a b = read2 d d idm random1 random2 c3 id key code a b

  module _ (a b : ℕ) (fa : Fits (A2 a)) (fb : Fits (R2 a b)) where
    room_a2 : block_size s ≤ a
    room_a2 = two.room_2a s keys idm e c3 g3 random2 g2 a fa

    made_2a_lem : A2 a ≡ accepted 0 (under_beta s keys idm c3 random2)
    made_2a_lem = two.makes_2a s keys idm e c3 g3 random2 g2 a room_a2

    sent_2a : Block (block_size s) (A2 a).bytes
    sent_2a = rw (bytes_of _ _ made_2a_lem) ((two.beta_undone s keys idm e c3 g3).enc random2 g2)

    room_b2 : block_size s ≤ b
    room_b2 = two.room_read_2a s keys idm e c3 g3 (A2 a).bytes sent_2a b fb

    reader_reads : ((A2 a).number ≡ 0) × (R2 a b ≡ accepted 0 random2)
    reader_reads = (zero_of _ _ made_2a_lem, two.reads_2a s keys idm e c3 g3 random2 a b g2 room_a2 room_b2)

    read_2 : (R2 a b).bytes ≡ random2
    read_2 = bytes_of _ _ reader_reads.1

    card_accepts : (r : ℕ) → Fits (made_2b d d idm random1 random2 c3 id key code a b r)
        → ((made_2b d d idm random1 random2 c3 id key code a b r).number ≡ 0) × ((x : List ℕ) → ((checking_2b s keys idm random2 x).number ≡ 0) ↔ (x ≡ (made_2b d d idm random1 random2 c3 id key code a b r).bytes))
    card_accepts r fr =
        let room : block_size s ≤ r = two.room_2b s keys idm e (R2 a b).bytes (rw read_2 g2) r fr in
        let m = two.answers_2b s keys idm e c3 g3 random2 a b r g2 room_a2 room_b2 room in
        let w = bytes_of _ _ m in (
          zero_of _ _ m,
          λ x. let k = two.checks_2b s keys idm e random2 x g2 in (λ z. k.0 z ∙ sym w, λ q. zero_of _ _ (k.1 (q ∙ w))),
        )

  -- ---- session keys

  -- for AES random 2 has 16 bytes
  g2_aes : s ≡ 2 → Block 16 random2
  g2_aes h = rw (two.size_of_aes s h) at g2

  keys_of : s ≡ 2 → (x : List ℕ) (r : ℕ) → x ≡ random2 → Fits (deriving_session_keys x r) → deriving_session_keys x r ≡ accepted 0 (session_keys random2)
  keys_of h x r q f =
      let g : Block 16 x = rw q (g2_aes h) in
      two.makes_session_keys x g r (two.room_session_keys x g r f) ∙ ap (λ (y : List ℕ). accepted 0 (session_keys y)) q

  same_keys : s ≡ 2 → (a b r t : ℕ) → Fits (A2 a) → Fits (R2 a b) → Fits (deriving_session_keys (R2 a b).bytes r) → Fits (deriving_session_keys random2 t)
      → ((deriving_session_keys (R2 a b).bytes r).number ≡ 0) × (deriving_session_keys (R2 a b).bytes r ≡ deriving_session_keys random2 t)
  same_keys h a b r t fa fb fr ft =
      let m = keys_of h (R2 a b).bytes r (read_2 a b fa fb) fr in
      (zero_of _ _ m, m ∙ sym (keys_of h random2 t refl ft))

  -- ---- both ends seal and open with the same credentials

  abbrev C : List ℕ → List ℕ
  C k = credentials d d idm random1 random2 c3 id key code s k

  des_credentials : s ≡ 1 → (k k' : List ℕ) → C k ≡ C k'
  unfolding choose
  des_credentials h k k' = rw h

  common : (k : List ℕ) → (s ≡ 2 → k ≡ session_keys random2) → C k ≡ C (session_keys random2)
  common k h = ⊎_elim (λ (p : s ≡ 1). des_credentials p k (session_keys random2)) (λ (p : s ≡ 2). ap C (h p)) e.known

  end_is : (t : ℕ) (c : List ℕ) → End d d idm random1 random2 c3 id key code t c → (t ≡ s) × (c ≡ C (session_keys random2))
  end_is t c (reader a b r fa fb fr) = (refl, common _ (λ h. bytes_of _ _ (keys_of h (R2 a b).bytes r (read_2 a b fa fb) (fr h))))
  end_is t c (card r fr) = (refl, common _ (λ h. bytes_of _ _ (keys_of h random2 r refl (fr h))))

  credentials_are : Fixed (choose (eqb s 1) 8 36) (C (session_keys random2))
  unfolding choose
  credentials_are =
      ⊎_elim
      (λ (p : s ≡ 1). rw p i.key_is)
      (λ (p : s ≡ 2).
      let g = two.session_keys_block random2 (g2_aes p) in
      let l : length (session_keys random2) ≡ 32 = g.long in
      let m : length c3 ≡ 4 = g3.long in
      rw p (length-append (session_keys random2) c3 ∙ omega arith, Bytes-append (session_keys random2) c3 g.bytes g3.bytes))
      e.known

  all_frames : Frames s (C (session_keys random2)) id code
  all_frames = frames s (C (session_keys random2)) id code e.known credentials_are.0 credentials_are.1 i.id_is.0 i.id_is.1 i.one

  module _ (t : ℕ) (c : List ℕ) (end : End d d idm random1 random2 c3 id key code t c) where
    here : Frames t c id code
    here = let q = end_is t c end in rw (q.0, q.1) all_frames

    module _ (number room : ℕ) (payload : List ℕ) (h : Domain t number payload) where
      command_sealed : Fits (sealing t c code number id payload room) → sealing t c code number id payload room ≡ accepted 0 (sealed t c code number id payload)
      command_sealed f =
          ⊎_elim
          (λ (l : sealed_size t (length payload) ≤ room). here.seals number room payload h l)
          (λ (l : room < sealed_size t (length payload)). absurd (f (ap (λ (o : Outcome). o.number) (here.seals_not number room payload h l) ∙ refused_number 16)))
          (le_or_lt (sealed_size t (length payload)) room)

      response_sealed : Fits (responding t c code number id payload room) → responding t c code number id payload room ≡ accepted 0 (framed code (sealed t c code number id payload))
      response_sealed f =
          ⊎_elim
          (λ (l : sealed_size t (length payload) + 2 ≤ room). responds t c id code here number room payload h l)
          (λ (l : room < sealed_size t (length payload) + 2).
          absurd (f (ap (λ (o : Outcome). o.number) (responds_not t c id code here number room payload h (size_some t (length payload)) l) ∙ refused_number 16)))
          (le_or_lt (sealed_size t (length payload) + 2) room)

  -- either end's scheme and credentials are those of the other
  same_ends : (t t' : ℕ) (c c' : List ℕ) → End d d idm random1 random2 c3 id key code t c → End d d idm random1 random2 c3 id key code t' c' → (t ≡ t') × (c ≡ c')
  same_ends t t' c c' x y =
      let p = end_is t c x in
      let q = end_is t' c' y in
      (p.0 ∙ sym q.0, p.1 ∙ sym q.1)

  pub agrees : Agreement d d idm random1 random2 c3 id key code
  agrees =
      record {
        card_reads_random_1 = card_reads;
        reader_reads_random_2 = reader_reads;
        reader_accepts_exactly_1b = λ a b r fa fb fr. reader_accepts a b fa fb r fr;
        card_accepts_exactly_2b = λ a b r fa fb fr. card_accepts a b fa fb r fr;
        same_session_keys = same_keys;
        commands_are_sealed = command_sealed;
        responses_are_sealed = response_sealed;
        opens_exactly = λ t t' c c' x y x' room bd f number payload. let q = same_ends t t' c c' x y in rw (q.0, q.1) ((here t' c' y).opens_exactly x' room bd f number payload);
        refuses_exactly = λ t t' c c' x y x' room bd f. let q = same_ends t t' c c' x y in rw (q.0, q.1) ((here t' c' y).refuses_exactly x' room bd f);
      }

-- ---- from a derivation that answers 0 at both ends

ends : (d : Derived) (idm : List ℕ) → Given d → Fixed 8 idm → two.Ends d.scheme d.bytes idm
unfolding choose
ends d idm g h =
    ⊎_elim
    (λ (p : (d.scheme ≡ 1) × (length d.bytes ≡ 16)). record { known = inl p.0; keys_are = rw p.0 (record { long = p.1; bytes = g.bytes_are }); idm_is = fixed_block 8 idm h })
    (λ (p : (d.scheme ≡ 2) × (length d.bytes ≡ 32)). record { known = inr p.0; keys_are = rw p.0 (record { long = p.1; bytes = g.bytes_are }); idm_is = fixed_block 8 idm h })
    g.known

-- two derivations of the same inputs, with outputs of any two sizes, each answering 0
pub statement_3 : (mark room room' : ℕ) (keys areas services individual : List ℕ) → Bytes keys → Bytes individual
    → (derivation mark keys areas services individual room).number ≡ 0 → (derivation mark keys areas services individual room').number ≡ 0
    → (idm random1 random2 c3 id key : List ℕ) (code : ℕ) → Inputs (derivation mark keys areas services individual room).scheme idm random1 random2 c3 id key code
    → Statement3 (derivation mark keys areas services individual room) (derivation mark keys areas services individual room') idm random1 random2 c3 id key code
statement_3 mark room room' keys areas services individual bk bi zero zero' idm random1 random2 c3 id key code i =
    let d : Derived = derivation mark keys areas services individual room in
    let g = derivation_gives mark keys areas services individual bk bi room zero in
    let q = same_derivation mark keys areas services individual bk bi room room' zero zero' in
    let a = agrees d idm random1 random2 c3 id key code (ends d idm g i.idm_is) i in
    record { same_derivation = q; agreement = subst (λ (c : Derived). Agreement d c idm random1 random2 c3 id key code) q a }
