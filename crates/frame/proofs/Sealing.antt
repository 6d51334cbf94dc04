-- Sealing answers with the sealed data and its padding, for each number and each payload that fits, wherever there is room; and it answers 0
-- nowhere else. In both schemes at once, then in each. Assumes nothing.
use mathlib.Core.Path.{◌≡◌, refl, sym, ap, ◌∙◌}
use mathlib.Core.List.{List, [], ◌∷◌}
use mathlib.Core.Logic.{◌⊎◌, inl, inr, ⊎_elim}
use Prim.Native.Nat.{ℕ, ◌+◌, ◌≤◌, ◌<◌}
use borrow.Author.Tests.{eq-eqb, lt-ltb, le-ltb, ltb-false}
use lib.Dec.{eqb, ltb, lit<}
use lib.ListN.{length}
use Rattle.answer.specs.Outcome.{Outcome, Row, row, refused, accepted, padded, choose, decide}
use Rattle.answer.specs.Tests.{isnt, either}
use Rattle.frame.specs.AesFrame.{aes_sealed, aes_size, aes_seal_rows, aes_sealing}
use Rattle.frame.specs.DesFrame.{des_sealed, des_size, seal_rows, des_sealing}
use Rattle.frame.specs.Padding.{pad_count}
use Rattle.frame.specs.Scheme.{by_scheme, sealed, sealing, sealed_size, sealed_padding, longest}
use Rattle.answer.proofs.Rows.{decide_false, either_false, is_number}
use Rattle.answer.proofs.Refusals.{isnt_of, either_of, zero_passes}

-- what the lengths have to be: of ID, credentials, payload and output
pub record Seals (wanted most size : ℕ) (id credentials payload room : ℕ) : Type 0 where
  pub six : id ≡ 6
  pub all : credentials ≡ wanted
  pub short : payload ≤ most
  pub fits : size ≤ room

module _ (scheme : ℕ) (c id payload : List ℕ) (code number room : ℕ) (known : (scheme ≡ 1) ⊎ (scheme ≡ 2)) where
  -- 17, 12 and 16 by lengths
  abbrev rows : List Row
  rows =
      row 17 (either (isnt (eqb (length id) 6)) (isnt (eqb (length c) (choose (eqb scheme 1) 8 36))))
      ∷ row 12 (ltb (longest scheme) (length payload))
      ∷ row 16 (ltb room (sealed_size scheme (length payload)))
      ∷ []

  by_rows : sealing scheme c code number id payload room ≡ decide rows (padded (sealed_padding scheme (length payload)) (sealed scheme c code number id payload))
  unfolding sealing by_scheme sealed sealed_size sealed_padding longest des_sealing seal_rows aes_sealing aes_seal_rows choose
  by_rows =
      ⊎_elim
      (λ (e : scheme ≡ 1). rw e refl)
      (λ (e : scheme ≡ 2). rw e refl)
      known

  pub seals_only : (sealing scheme c code number id payload room).number ≡ 0
      → Seals (choose (eqb scheme 1) 8 36) (longest scheme) (sealed_size scheme (length payload)) (length id) (length c) (length payload) room
  seals_only z =
      let a = zero_passes rows _ (lit< tt, (lit< tt, (lit< tt, tt))) (ap (λ (o : Outcome). o.number) (sym by_rows) ∙ z) in
      let b = either_false _ _ a.0 in
      record { six = is_number _ 6 b.0; all = is_number _ _ b.1; short = ltb-false _ _ a.1.0; fits = ltb-false _ _ a.1.1.0 }

  -- ID and credentials have their fixed lengths
  module _ (six : length id ≡ 6) (all : length c ≡ choose (eqb scheme 1) 8 36) where
    pub seals_12 : longest scheme < length payload → sealing scheme c code number id payload room ≡ refused 12
    unfolding decide choose
    seals_12 h = by_rows ∙ rw (either_of _ _ (isnt_of _ (eq-eqb _ _ six)) (isnt_of _ (eq-eqb _ _ all)), lt-ltb _ _ h)

    -- and the payload is not too long: only the room decides
    module _ (short : length payload ≤ longest scheme) where
      pub seals : sealed_size scheme (length payload) ≤ room → sealing scheme c code number id payload room ≡ padded (sealed_padding scheme (length payload)) (sealed scheme c code number id payload)
      seals h = by_rows ∙ decide_false rows _ (either_of _ _ (isnt_of _ (eq-eqb _ _ six)) (isnt_of _ (eq-eqb _ _ all)), (le-ltb _ _ short, (le-ltb _ _ h, tt)))

      pub seals_16 : room < sealed_size scheme (length payload) → sealing scheme c code number id payload room ≡ refused 16
      unfolding decide choose
      seals_16 h = by_rows ∙ rw (either_of _ _ (isnt_of _ (eq-eqb _ _ six)) (isnt_of _ (eq-eqb _ _ all)), le-ltb _ _ short, lt-ltb _ _ h)

module _ (id payload : List ℕ) (code number room : ℕ) where
  pub des_seals : (key : List ℕ) → Seals 8 232 (des_size (length payload)) (length id) (length key) (length payload) room
      → des_sealing key code number id payload room ≡ padded (pad_count (length payload + 8)) (des_sealed key code number id payload)
  unfolding sealing by_scheme sealed sealed_size sealed_padding longest choose
  des_seals key h = seals 1 key id payload code number room (inl refl) h.six h.all h.short h.fits

  pub aes_seals : (c : List ℕ) → Seals 36 243 (aes_size (length payload)) (length id) (length c) (length payload) room
      → aes_sealing c code number id payload room ≡ accepted 0 (aes_sealed c code number id payload)
  unfolding sealing by_scheme sealed sealed_size sealed_padding longest choose
  aes_seals c h = seals 2 c id payload code number room (inr refl) h.six h.all h.short h.fits
