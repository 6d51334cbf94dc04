-- The padding that an answer tells: of each sealing the count of the padding rule, of everything else 0; and with it the payload's length comes
-- back from the size that was written. Assumes nothing.
use mathlib.Core.Path.{◌≡◌, refl, sym, ap, ◌∙◌}
use mathlib.Core.Bool.{Bool, true, false}
use mathlib.Core.List.{List}
use mathlib.Core.Logic.{⊎_elim}
use Prim.Native.Nat.{ℕ, ◌+◌, ◌-◌, ◌≤◌, ◌<◌}
use native.Mathlib.Omega.{arith}
use lib.Dec.{eqb}
use lib.ListN.{length}
use Rattle.cipher.proofs.Numbers.{le_or_lt}
use Rattle.answer.specs.Outcome.{Outcome, acceptance, padded, choose}
use Rattle.answer.proofs.Unpadded.{Unpadded, decide_unpadded, accepted_unpadded, delivering_unpadded, refused_unpadded, refusal_unpadded}
use Rattle.frame.specs.AesFrame.{aes_size, aes_opening}
use Rattle.frame.specs.Authentication2.{auth2_sealing, auth2_sealed, auth2_accepting, auth2_opening, auth2_opening_aes}
use Rattle.frame.specs.DesFrame.{des_size, des_opening}
use Rattle.frame.specs.Package.{packaging}
use Rattle.frame.specs.Padding.{pad_count, pad}
use Rattle.frame.specs.Scheme.{sealing, sealed, opening, responding, sealed_size, sealed_padding}
use Rattle.frame.specs.Trimmed.{trimmed_opening}
use Rattle.frame.proofs.Authentications.{auth2_seals_only, auth2_seal_whole}
use Rattle.frame.proofs.DesTrip.{length_des_seal}
use Rattle.frame.proofs.Frames.{length_sealed, length_framed, sealed_before, is_framed}
use Rattle.frame.proofs.Pads.{pad_count_small, pad_count_whole, length_pad, sealed_padding_small}
use Rattle.frame.proofs.Schemes.{sealing_known, by_scheme_keeps, sealing_whole, responding_whole}
use Rattle.frame.proofs.Sealing.{seals, seals_only}

-- an acceptance has n bytes of padding, and a refusal has none
abbrev pub PaddedBy : ℕ → Outcome → Type 0
PaddedBy n o = (o.number ≡ 0 → o.padding ≡ n) × ((o.number ≡ 0 → ⊥) → o.padding ≡ 0)

-- and n is below 8
small : (n : ℕ) (o : Outcome) → PaddedBy n o → n < 8 → o.padding < 8
small n o h l =
    ⊎_elim
    (λ (r : 1 ≤ o.number). let e : o.padding ≡ 0 = h.1 (λ z. omega arith) in omega arith)
    (λ (z : o.number < 1). let e : o.padding ≡ n = h.0 (omega arith) in omega arith)
    (le_or_lt 1 o.number)

-- ---- sealings

-- a command
module _ (scheme : ℕ) (c id payload : List ℕ) (code number room : ℕ) where
  sealed_as : (sealing scheme c code number id payload room).number ≡ 0
      → (sealing scheme c code number id payload room ≡ padded (sealed_padding scheme (length payload)) (sealed scheme c code number id payload))
      × (length (sealed scheme c code number id payload) ≡ sealed_size scheme (length payload))
  sealed_as z =
      let known = sealing_known scheme c id payload code number room z in
      let s = seals_only scheme c id payload code number room known z in
      (seals scheme c id payload code number room known s.six s.all s.short s.fits, length_sealed scheme c id payload code number known s.six s.all)

  pub sealing_padding : PaddedBy (sealed_padding scheme (length payload)) (sealing scheme c code number id payload room)
  unfolding acceptance
  sealing_padding = (λ z. ap (λ (o : Outcome). o.padding) (sealed_as z).0, refusal_unpadded _ (sealing_whole scheme code number room c id payload))

-- a response frame
module _ (scheme : ℕ) (c id payload : List ℕ) (code number room : ℕ) where
  pub responding_padding : PaddedBy (sealed_padding scheme (length payload)) (responding scheme c code number id payload room)
  unfolding acceptance
  responding_padding = (
    λ z. ap (λ (o : Outcome). o.padding) (is_framed scheme c id code number room payload z)
        ∙ (sealing_padding scheme c id payload code number (room - 2)).0 (sealed_before scheme c id code number room payload z),
    refusal_unpadded _ (responding_whole scheme code number room c id payload),
  )

-- Authentication 2
pub auth2_padding : (key payload : List ℕ) (room : ℕ) → PaddedBy (pad_count (length payload)) (auth2_sealing key payload room)
unfolding acceptance
auth2_padding key payload room = (λ z. ap (λ (o : Outcome). o.padding) (auth2_seals_only key payload room z), refusal_unpadded _ (auth2_seal_whole key payload room))

-- what that is for given lengths: of commands and frames with DES, of Authentication 2, and with AES
pub padding_table : (sealed_padding 1 0 ≡ 0)
    × (sealed_padding 1 1 ≡ 7)
    × (sealed_padding 1 7 ≡ 1)
    × (sealed_padding 1 8 ≡ 0)
    × (sealed_padding 1 225 ≡ 7)
    × (sealed_padding 1 231 ≡ 1)
    × (sealed_padding 1 232 ≡ 0)
    × (pad_count 0 ≡ 0)
    × (pad_count 233 ≡ 7)
    × (pad_count 239 ≡ 1)
    × (pad_count 240 ≡ 0)
    × ((n : ℕ) → sealed_padding 2 n ≡ 0)
unfolding sealed_padding pad_count choose
padding_table = (refl, refl, refl, refl, refl, refl, refl, refl, refl, refl, refl, λ n. refl)

-- all of them are below 8
pub padding_small : (scheme : ℕ) (c id payload : List ℕ) (code number room : ℕ)
    → ((sealing scheme c code number id payload room).padding < 8) × ((responding scheme c code number id payload room).padding < 8) × ((auth2_sealing c payload room).padding < 8)
padding_small scheme c id payload code number room = (
  small _ (sealing scheme c code number id payload room) (sealing_padding scheme c id payload code number room) (sealed_padding_small scheme (length payload)),
  small _ (responding scheme c code number id payload room) (responding_padding scheme c id payload code number room) (sealed_padding_small scheme (length payload)),
  small _ (auth2_sealing c payload room) (auth2_padding c payload room) (pad_count_small (length payload)),
)

-- ---- the payload's length, from the size

-- what stands around payload and padding: number, ID and MAC with DES; number and MAC with AES
abbrev pub around : ℕ → ℕ
around scheme = choose (eqb scheme 1) 16 10

size_around : (scheme n : ℕ) → n + sealed_padding scheme n + around scheme ≡ sealed_size scheme n
unfolding sealed_padding sealed_size des_size aes_size choose
size_around scheme n = by (eqb scheme 1) where
  by : (b : Bool) → n + choose b (pad_count (n + 8)) 0 + choose b 16 10 ≡ choose b (n + 8 + pad_count (n + 8) + 8) (n + 10)
  by true = omega arith
  by false = omega arith

-- a size s of n bytes of payload, p of padding and a more: and the way back
abbrev pub Counts : ℕ → ℕ → ℕ → ℕ → Type 0
Counts n p a s = (n + p + a ≡ s) × (n ≡ s - p - a)

counts : (n p a s : ℕ) → n + p + a ≡ s → Counts n p a s
counts n p a s e = (e, omega arith)

module _ (scheme : ℕ) (c id payload : List ℕ) (code number room : ℕ) where
  pub payload_from_size : (sealing scheme c code number id payload room).number ≡ 0
      → Counts (length payload) (sealing scheme c code number id payload room).padding (around scheme) (length (sealing scheme c code number id payload room).bytes)
  unfolding acceptance
  payload_from_size z =
      let s = sealed_as scheme c id payload code number room z in
      let l : length (sealing scheme c code number id payload room).bytes ≡ sealed_size scheme (length payload) = ap (λ (o : Outcome). length o.bytes) s.0 ∙ s.1 in
      let p = (sealing_padding scheme c id payload code number room).0 z in
      counts _ _ _ _ (ap (λ (k : ℕ). length payload + k + around scheme) p ∙ size_around scheme (length payload) ∙ sym l)

module _ (scheme : ℕ) (c id payload : List ℕ) (code number room : ℕ) where
  -- a response frame has two bytes more
  pub payload_from_frame_size : (responding scheme c code number id payload room).number ≡ 0
      → Counts (length payload) (responding scheme c code number id payload room).padding (around scheme + 2) (length (responding scheme c code number id payload room).bytes)
  unfolding acceptance
  payload_from_frame_size z =
      let f = is_framed scheme c id code number room payload z in
      let l : length (responding scheme c code number id payload room).bytes ≡ length (sealing scheme c code number id payload (room - 2)).bytes + 2 =
      ap (λ (o : Outcome). length o.bytes) f ∙ length_framed code (sealing scheme c code number id payload (room - 2)).bytes in
      let p : (responding scheme c code number id payload room).padding ≡ (sealing scheme c code number id payload (room - 2)).padding = ap (λ (o : Outcome). o.padding) f in
      let e = (payload_from_size scheme c id payload code number (room - 2) (sealed_before scheme c id code number room payload z)).0 in
      counts _ _ _ _ (omega (arith, l, p, e))

-- Authentication 2 has no header: its MAC alone stands behind payload and padding
pub payload_from_auth2_size : (key payload : List ℕ) (room : ℕ) → (auth2_sealing key payload room).number ≡ 0
    → Counts (length payload) (auth2_sealing key payload room).padding 8 (length (auth2_sealing key payload room).bytes)
unfolding acceptance auth2_sealed
payload_from_auth2_size key payload room z =
    let s = auth2_seals_only key payload room z in
    let w : length (pad payload) ≡ length payload + pad_count (length payload) = length_pad payload in
    let l = ap (λ (o : Outcome). length o.bytes) s ∙ length_des_seal key 0x13 (pad payload) (omega (arith, w, pad_count_whole (length payload))) in
    let p : (auth2_sealing key payload room).padding ≡ pad_count (length payload) = (auth2_padding key payload room).0 z in
    counts _ _ _ _ (omega (arith, l, w, p))

-- ---- what is no sealing has no padding

pub opening_unpadded : (scheme code room : ℕ) (c id d : List ℕ) → Unpadded (opening scheme c code id d room)
unfolding opening des_opening aes_opening
opening_unpadded scheme code room c id d =
    by_scheme_keeps Unpadded refused_unpadded scheme _ _ (decide_unpadded _ _ (delivering_unpadded _ _ room)) (decide_unpadded _ _ (delivering_unpadded _ _ room))

pub trimmed_unpadded : (key id d : List ℕ) (code room : ℕ) → Unpadded (trimmed_opening key code id d room)
unfolding trimmed_opening
trimmed_unpadded key id d code room = decide_unpadded _ _ (delivering_unpadded _ _ room)

pub auth2_opening_unpadded : (key d : List ℕ) (room : ℕ) → Unpadded (auth2_opening key d room)
unfolding auth2_opening auth2_accepting
auth2_opening_unpadded key d room = decide_unpadded _ _ (decide_unpadded _ _ (delivering_unpadded 0 _ room))

pub auth2_opening_aes_unpadded : (c id d : List ℕ) (room : ℕ) → Unpadded (auth2_opening_aes c id d room)
unfolding auth2_opening_aes aes_opening
auth2_opening_aes_unpadded c id d room = decide_unpadded _ _ (delivering_unpadded _ _ room)

pub packaging_unpadded : (key plain : List ℕ) (room : ℕ) → Unpadded (packaging key plain room)
unfolding packaging
packaging_unpadded key plain room = decide_unpadded _ _ (accepted_unpadded 0 _)
