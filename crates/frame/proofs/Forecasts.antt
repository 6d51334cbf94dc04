-- The forecast is the size that sealing writes, its refusals are those of sealing, and an output of that size is just enough. Assumes nothing.
use mathlib.Core.Path.{◌≡◌, refl, sym, ap, ◌∙◌}
use mathlib.Core.Bool.{Bool, true, false}
use mathlib.Core.List.{List}
use mathlib.Core.Logic.{◌↔◌, ◌⊎◌, inl, inr, ⊎_elim}
use Prim.Native.Nat.{ℕ, ◌+◌, ◌-◌, ◌≤◌, ◌<◌}
use native.Mathlib.Omega.{arith}
use lib.Dec.{eqb}
use lib.ListN.{length}
use Rattle.cipher.proofs.Numbers.{le_or_lt}
use Rattle.answer.specs.Outcome.{Outcome, acceptance, choose, first_of}
use Rattle.answer.specs.Tests.{isnt, either}
use Rattle.answer.proofs.Refusals.{refused_number, acceptance_zero}
use Rattle.frame.specs.AesFrame.{aes_size}
use Rattle.frame.specs.DesFrame.{des_size}
use Rattle.frame.specs.Forecast.{up_to_eights, forecast_size, forecast_rows, forecasting}
use Rattle.frame.specs.Scheme.{sealing, responding, sealed_size, longest}
use Rattle.frame.proofs.Frames.{length_sealed, sealed_before, is_framed, length_framed}
use Rattle.frame.proofs.Schemes.{eights_are_sealed, sealing_known, sealing_unknown, foretold_17, foretold_12, foretold_size, foretold_only}
use Rattle.frame.proofs.Sealing.{seals, seals_12, seals_16, seals_only}

-- the forecast's rule is that of sealing; a mark that is neither 1 nor 2 has no size, and both rules treat it alike
pub forecast_is_sealed_size : (scheme n : ℕ) → forecast_size scheme n ≡ sealed_size scheme n
unfolding forecast_size sealed_size aes_size choose
forecast_is_sealed_size scheme n = by (eqb scheme 1) where
  by : (b : Bool) → choose b (up_to_eights (n + 8) + 8) (n + 10) ≡ choose b (des_size n) (aes_size n)
  by true = eights_are_sealed n
  by false = refl

-- a forecast of 0 has the sealed size
foretold_sealed : (scheme n : ℕ) → (scheme ≡ 1) ⊎ (scheme ≡ 2) → n ≤ longest scheme → ((forecasting scheme n).number ≡ 0) × ((forecasting scheme n).size ≡ sealed_size scheme n)
foretold_sealed scheme n known short =
    let f = foretold_size scheme n known short in
    (f.0, f.1 ∙ forecast_is_sealed_size scheme n)

module _ (scheme : ℕ) (c id payload : List ℕ) (code number room : ℕ) where
  -- where sealing answers 0, the forecast answers 0 with the length of the bytes that sealing wrote
  pub forecast_exact : (sealing scheme c code number id payload room).number ≡ 0
      → ((forecasting scheme (length payload)).number ≡ 0) × ((forecasting scheme (length payload)).size ≡ length (sealing scheme c code number id payload room).bytes)
  unfolding acceptance
  forecast_exact z =
      let known = sealing_known scheme c id payload code number room z in
      let s = seals_only scheme c id payload code number room known z in
      let f = foretold_sealed scheme (length payload) known s.short in
      let w = seals scheme c id payload code number room known s.six s.all s.short s.fits in
      (f.0, f.1 ∙ sym (length_sealed scheme c id payload code number known s.six s.all) ∙ ap (λ (o : Outcome). length o.bytes) (sym w))

  -- where ID and credentials have their fixed lengths, the payload's length and the room decide
  module _ (known : (scheme ≡ 1) ⊎ (scheme ≡ 2)) (six : length id ≡ 6) (all : length c ≡ choose (eqb scheme 1) 8 36) where
    long_12 : longest scheme < length payload → (sealing scheme c code number id payload room).number ≡ 12
    long_12 h = ap (λ (o : Outcome). o.number) (seals_12 scheme c id payload code number room known six all h) ∙ refused_number 12

    by_room : length payload ≤ longest scheme
        → ((sealed_size scheme (length payload) ≤ room) × ((sealing scheme c code number id payload room).number ≡ 0))
        ⊎ ((room < sealed_size scheme (length payload)) × ((sealing scheme c code number id payload room).number ≡ 16))
    by_room short =
        ⊎_elim
        (λ (h : sealed_size scheme (length payload) ≤ room).
        inl (h, ap (λ (o : Outcome). o.number) (seals scheme c id payload code number room known six all short h) ∙ acceptance_zero 0 _ _))
        (λ (h : room < sealed_size scheme (length payload)).
        inr (h, ap (λ (o : Outcome). o.number) (seals_16 scheme c id payload code number room known six all short h) ∙ refused_number 16))
        (le_or_lt (sealed_size scheme (length payload)) room)

    -- and nothing else
    neither : length payload ≤ longest scheme → (k : ℕ) → (k ≡ 0 → ⊥) → (k ≡ 16 → ⊥) → (sealing scheme c code number id payload room).number ≡ k → ⊥
    neither short k zero full e =
        ⊎_elim
        (λ (t : (sealed_size scheme (length payload) ≤ room) × ((sealing scheme c code number id payload room).number ≡ 0)). zero (sym e ∙ t.1))
        (λ (t : (room < sealed_size scheme (length payload)) × ((sealing scheme c code number id payload room).number ≡ 16)). full (sym e ∙ t.1))
        (by_room short)

  -- where the forecast answers 0, and ID and credentials have their fixed lengths, an output of the forecast size is enough, and one byte less
  -- is not
  pub forecast_room : (forecasting scheme (length payload)).number ≡ 0 → length id ≡ 6 → length c ≡ choose (eqb scheme 1) 8 36
      → (((sealing scheme c code number id payload room).number ≡ 0) ↔ ((forecasting scheme (length payload)).size ≤ room))
      × (((sealing scheme c code number id payload room).number ≡ 16) ↔ (room < (forecasting scheme (length payload)).size))
  forecast_room z six all =
      let k = foretold_only scheme (length payload) z in
      let size : (forecasting scheme (length payload)).size ≡ sealed_size scheme (length payload) = (foretold_sealed scheme (length payload) k.0 k.1).1 in
      ⊎_elim
      (λ (t : (sealed_size scheme (length payload) ≤ room) × ((sealing scheme c code number id payload room).number ≡ 0)).
      let a = t.0 in
      let b = t.1 in
      ((λ e. omega arith, λ h. b), (λ e. absurd (omega arith), λ h. absurd (omega arith))))
      (λ (t : (room < sealed_size scheme (length payload)) × ((sealing scheme c code number id payload room).number ≡ 16)).
      let a = t.0 in
      let b = t.1 in
      ((λ e. absurd (omega arith), λ h. absurd (omega arith)), (λ e. omega arith, λ h. b)))
      (by_room k.0 six all k.1)

  -- the refusals are those of sealing. For marks 1 and 2, where ID and credentials have their fixed lengths: 12 for the same payloads, whatever
  -- the room, and never 17. For every other mark: 17
  pub forecast_refuses : ((scheme ≡ 1) ⊎ (scheme ≡ 2) → length id ≡ 6 → length c ≡ choose (eqb scheme 1) 8 36
      → (((forecasting scheme (length payload)).number ≡ 12) ↔ ((sealing scheme c code number id payload room).number ≡ 12))
      × ((forecasting scheme (length payload)).number ≡ 17 → ⊥)
      × ((sealing scheme c code number id payload room).number ≡ 17 → ⊥))
      × ((scheme ≡ 1 → ⊥) → (scheme ≡ 2 → ⊥) → ((forecasting scheme (length payload)).number ≡ 17) × ((sealing scheme c code number id payload room).number ≡ 17))
  forecast_refuses = (
    λ known six all. ⊎_elim
        (λ (h : length payload ≤ longest scheme).
        let f = (foretold_size scheme (length payload) known h).0 in (
          (λ e. absurd (omega arith), λ e. absurd (neither known six all h 12 (λ q. omega arith) (λ q. omega arith) e)),
          λ e. omega arith,
          neither known six all h 17 (λ q. omega arith) (λ q. omega arith),
        ))
        (λ (h : longest scheme < length payload).
        let f = (foretold_12 scheme (length payload) known h).0 in
        let s = long_12 known six all h in
        ((λ e. s, λ e. f), λ e. omega arith, λ e. omega arith))
        (le_or_lt (length payload) (longest scheme)),
    λ h i. ((foretold_17 scheme (length payload) h i).0, ap (λ (o : Outcome). o.number) (sealing_unknown scheme c id payload code number room h i) ∙ refused_number 17),
  )

-- a response frame has two bytes more: where it is made, the forecast answers 0
pub forecast_frame : (scheme : ℕ) (c id payload : List ℕ) (code number room : ℕ) → (responding scheme c code number id payload room).number ≡ 0
    → ((forecasting scheme (length payload)).number ≡ 0) × (length (responding scheme c code number id payload room).bytes ≡ (forecasting scheme (length payload)).size + 2)
unfolding acceptance
forecast_frame scheme c id payload code number room z =
    let f = forecast_exact scheme c id payload code number (room - 2) (sealed_before scheme c id code number room payload z) in (
      f.0,
      ap (λ (o : Outcome). length o.bytes) (is_framed scheme c id code number room payload z)
          ∙ length_framed code (sealing scheme c code number id payload (room - 2)).bytes
          ∙ ap (λ (n : ℕ). n + 2) (sym f.1),
    )

-- ---- number and size for given marks and lengths

abbrev Says : ℕ → ℕ → ℕ → ℕ → Type 0
Says scheme n number size = ((forecasting scheme n).number ≡ number) × ((forecasting scheme n).size ≡ size)

pub forecast_table : Says 1 0 0 16
    × Says 2 0 0 10
    × Says 1 1 0 24
    × Says 2 1 0 11
    × Says 1 8 0 24
    × Says 2 8 0 18
    × Says 1 9 0 32
    × Says 2 9 0 19
    × Says 1 232 0 248
    × Says 2 232 0 242
    × Says 1 233 12 0
    × Says 2 233 0 243
    × Says 1 243 12 0
    × Says 2 243 0 253
    × ((n : ℕ) → 243 < n → Says 1 n 12 0 × Says 2 n 12 0)
unfolding forecasting forecast_rows forecast_size up_to_eights longest first_of choose isnt either
forecast_table = (
  (refl, refl),
  (refl, refl),
  (refl, refl),
  (refl, refl),
  (refl, refl),
  (refl, refl),
  (refl, refl),
  (refl, refl),
  (refl, refl),
  (refl, refl),
  (refl, refl),
  (refl, refl),
  (refl, refl),
  (refl, refl),
  λ n h. (foretold_12 1 n (inl refl) (omega arith), foretold_12 2 n (inr refl) h),
)
