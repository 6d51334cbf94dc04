-- One call for both schemes: what a scheme mark chooses, and the forecast. Assumes nothing.
use mathlib.Core.Path.{◌≡◌, refl, sym, ap, ◌∙◌}
use mathlib.Core.Bool.{Bool, true, false}
use mathlib.Core.List.{List}
use mathlib.Core.Logic.{◌⊎◌, inl, inr, ⊎_elim}
use Prim.Native.Nat.{ℕ, ◌+◌, ◌-◌, ◌≤◌, ◌<◌}
use native.Mathlib.Omega.{arith}
use borrow.Author.Tests.{eqb-true, eqb-false, ne_eqb, lt-ltb, le-ltb}
use lib.Dec.{eqb}
use Rattle.cipher.proofs.Numbers.{le_or_lt}
use Rattle.std.specs.Prelude.{Err, ◌≢◌}
use Rattle.answer.specs.declared.refusal.Refusal.{Refusal}
use Rattle.answer.specs.declared.refusal.Refusal.TheVariants.{TooLong, BadMarkOrLength}
use Rattle.answer.specs.Refusal.{refusal_number}
use Rattle.answer.specs.Outcome.{Meets, Answer, answer_number, answer_length, answer_transaction, answer_padding, Outcome, refused, choose, first_of}
use Rattle.frame.specs.AesFrame.{aes_sealing, aes_opening}
use Rattle.frame.specs.DesFrame.{des_size, des_sealing, des_opening}
use Rattle.frame.specs.Forecast.{up_to_eights, forecast_size, forecast_rows, forecasting}
use Rattle.frame.specs.Padding.{pad_count}
use Rattle.frame.specs.Scheme.{by_scheme, sealing, opening, framing, responding, longest}
use Rattle.answer.specs.Tests.{isnt, either}
use Rattle.answer.proofs.Rows.{choose_keeps, err_meets}
use Rattle.answer.proofs.Refusals.{Whole, refused_number, refused_whole, decide_whole, acceptance_whole, delivering_whole}
use Rattle.frame.proofs.WorkBlocks.{framing_refusal}

-- ---- marks

-- a mark is known, or it is neither 1 nor 2
pub marks : (s : ℕ) → ((s ≡ 1) ⊎ (s ≡ 2)) ⊎ ((s ≡ 1 → ⊥) × (s ≡ 2 → ⊥))
marks s = by (eqb s 1) refl (eqb s 2) refl where
  by : (p : Bool) → eqb s 1 ≡ p → (q : Bool) → eqb s 2 ≡ q → ((s ≡ 1) ⊎ (s ≡ 2)) ⊎ ((s ≡ 1 → ⊥) × (s ≡ 2 → ⊥))
  by true e q f = inl (inl (eqb-true s 1 e))
  by false e true f = inl (inr (eqb-true s 2 f))
  by false e false f = inr (eqb-false s 1 e, eqb-false s 2 f)

module _ (s : ℕ) (a b : Outcome) where
  pub mark_des : s ≡ 1 → by_scheme s a b ≡ a
  unfolding by_scheme choose
  mark_des e = rw e

  pub mark_aes : s ≡ 2 → by_scheme s a b ≡ b
  unfolding by_scheme choose
  mark_aes e = rw e

  pub mark_unknown : (s ≡ 1 → ⊥) → (s ≡ 2 → ⊥) → by_scheme s a b ≡ refused 17
  unfolding by_scheme choose
  mark_unknown h i = rw (ne_eqb s 1 h, ne_eqb s 2 i)

  -- what the reader of the mark answered
  pub mark_17 : (e : Refusal) (out : List ℕ) {r : Answer} → r ≡ Err e → (e ≡ BadMarkOrLength) × (s ≢ 1) × (s ≢ 2) → Meets (by_scheme s a b) r out out
  mark_17 e out {r} q h = rw (mark_unknown h.1 h.2 ∙ ap (λ (x : Refusal). refused (refusal_number x)) (sym h.0)) (err_meets e out q)

  -- an acceptance has a known mark
  mark_known : (by_scheme s a b).number ≡ 0 → (s ≡ 1) ⊎ (s ≡ 2)
  mark_known z =
      ⊎_elim
      (λ (k : (s ≡ 1) ⊎ (s ≡ 2)). k)
      (λ (n : (s ≡ 1 → ⊥) × (s ≡ 2 → ⊥)).
      let q : (by_scheme s a b).number ≡ 17 = ap (λ (o : Outcome). o.number) (mark_unknown n.0 n.1) ∙ refused_number 17 in
      absurd (omega arith))
      (marks s)

-- a sealing of 0 has a known mark
pub sealing_known : (scheme : ℕ) (c id payload : List ℕ) (code number room : ℕ) → (sealing scheme c code number id payload room).number ≡ 0 → (scheme ≡ 1) ⊎ (scheme ≡ 2)
unfolding sealing
sealing_known scheme c id payload code number room = mark_known scheme _ _

pub sealing_unknown : (scheme : ℕ) (c id payload : List ℕ) (code number room : ℕ) → (scheme ≡ 1 → ⊥) → (scheme ≡ 2 → ⊥) → sealing scheme c code number id payload room ≡ refused 17
unfolding sealing
sealing_unknown scheme c id payload code number room = mark_unknown scheme _ _

-- a response frame is its scheme's
module _ (scheme : ℕ) (c id payload : List ℕ) (code number room : ℕ) where
  pub responding_des : scheme ≡ 1 → responding scheme c code number id payload room ≡ responding 1 c code number id payload room
  responding_des e = ap (λ (s : ℕ). responding s c code number id payload room) e

  pub responding_aes : scheme ≡ 2 → responding scheme c code number id payload room ≡ responding 2 c code number id payload room
  responding_aes e = ap (λ (s : ℕ). responding s c code number id payload room) e

  pub responding_unknown : (scheme ≡ 1 → ⊥) → (scheme ≡ 2 → ⊥) → responding scheme c code number id payload room ≡ refused 17
  unfolding responding
  responding_unknown h i = ap (framing code) (sealing_unknown scheme c id payload code number (room - 2) h i) ∙ framing_refusal code 17 (λ e. omega arith)

  pub responding_17 : (e : Refusal) (out : List ℕ) {r : Answer} → r ≡ Err e → (e ≡ BadMarkOrLength) × (scheme ≢ 1) × (scheme ≢ 2) → Meets (responding scheme c code number id payload room) r out out
  responding_17 e out {r} q h = rw (responding_unknown h.1 h.2 ∙ ap (λ (x : Refusal). refused (refusal_number x)) (sym h.0)) (err_meets e out q)

-- what refusals and the outcomes of both schemes have, the outcome by mark has
pub by_scheme_keeps : (P : Outcome → Type 0) → ((k : ℕ) → P (refused k)) → (s : ℕ) (a b : Outcome) → P a → P b → P (by_scheme s a b)
unfolding by_scheme
by_scheme_keeps P refusals s a b p q = choose_keeps P (eqb s 1) a _ p (choose_keeps P (eqb s 2) b _ q (refusals 17))

-- a refusal of sealing or opening is all of its outcome
pub sealing_whole : (scheme code number room : ℕ) (c id payload : List ℕ) → Whole (sealing scheme c code number id payload room)
unfolding sealing des_sealing aes_sealing
sealing_whole scheme code number room c id payload = by_scheme_keeps Whole refused_whole scheme _ _ (decide_whole _ _ (acceptance_whole 0 _ _)) (decide_whole _ _ (acceptance_whole 0 _ _))

pub responding_whole : (scheme code number room : ℕ) (c id payload : List ℕ) → Whole (responding scheme c code number id payload room)
unfolding responding framing
responding_whole scheme code number room c id payload = choose_keeps Whole _ _ _ (acceptance_whole 0 _ _) (sealing_whole scheme code number (room - 2) c id payload)

pub opening_whole : (scheme code room : ℕ) (c id d : List ℕ) → Whole (opening scheme c code id d room)
unfolding opening des_opening aes_opening
opening_whole scheme code room c id d = by_scheme_keeps Whole refused_whole scheme _ _ (decide_whole _ _ (delivering_whole _ _ room)) (decide_whole _ _ (delivering_whole _ _ room))

-- ---- the forecast

-- number, ID and payload, brought up to whole blocks, then the MAC
pub eights_are_sealed : (n : ℕ) → up_to_eights (n + 8) + 8 ≡ des_size n
unfolding up_to_eights des_size pad_count
eights_are_sealed n = omega arith

module _ (scheme n : ℕ) where
  -- by the number of the first row that holds
  forecast_by : (k : ℕ) → first_of (forecast_rows scheme n) ≡ k → ((forecasting scheme n).number ≡ k) × ((forecasting scheme n).size ≡ choose (eqb k 0) (forecast_size scheme n) 0)
  unfolding forecasting
  forecast_by k e = (e, ap (λ (j : ℕ). choose (eqb j 0) (forecast_size scheme n) 0) e)

  -- of a mark that is neither
  pub foretold_17 : (scheme ≡ 1 → ⊥) → (scheme ≡ 2 → ⊥) → ((forecasting scheme n).number ≡ 17) × ((forecasting scheme n).size ≡ 0)
  unfolding forecast_rows first_of choose isnt either
  foretold_17 h i = forecast_by 17 (rw (ne_eqb scheme 1 h, ne_eqb scheme 2 i))

  module _ (known : (scheme ≡ 1) ⊎ (scheme ≡ 2)) where
    -- row 17 does not hold
    passes_17 : isnt (either (eqb scheme 1) (eqb scheme 2)) ≡ false
    unfolding isnt either
    passes_17 =
        ⊎_elim
        (λ (e : scheme ≡ 1). rw e refl)
        (λ (e : scheme ≡ 2). rw e refl)
        known

    pub foretold_12 : longest scheme < n → ((forecasting scheme n).number ≡ 12) × ((forecasting scheme n).size ≡ 0)
    unfolding forecast_rows first_of choose
    foretold_12 h = forecast_by 12 (rw (passes_17, lt-ltb (longest scheme) n h))

    pub foretold_size : n ≤ longest scheme → ((forecasting scheme n).number ≡ 0) × ((forecasting scheme n).size ≡ forecast_size scheme n)
    unfolding forecast_rows first_of choose
    foretold_size h = forecast_by 0 (rw (passes_17, le-ltb (longest scheme) n h))

  -- a forecast of 0 has a known mark and a payload that is not too long
  pub foretold_only : (forecasting scheme n).number ≡ 0 → ((scheme ≡ 1) ⊎ (scheme ≡ 2)) × (n ≤ longest scheme)
  foretold_only z =
      ⊎_elim
      (λ (k : (scheme ≡ 1) ⊎ (scheme ≡ 2)).
      ⊎_elim
      (λ (h : n ≤ longest scheme). (k, h))
      (λ (h : longest scheme < n). let q = (foretold_12 k h).0 in absurd (omega arith))
      (le_or_lt n (longest scheme)))
      (λ (m : (scheme ≡ 1 → ⊥) × (scheme ≡ 2 → ⊥)). let q = (foretold_17 m.0 m.1).0 in absurd (omega arith))
      (marks scheme)

  module _ (r : Answer) where
    -- what `forecast` ensures
    abbrev Foretells : Type 0
    Foretells = (answer_number r ≡ (forecasting scheme n).number) × (answer_length r ≡ (forecasting scheme n).size) × (answer_transaction r ≡ 0) × (answer_padding r ≡ 0)

    -- the answer and the forecast have the same number and size
    forecasts : (k size : ℕ) → ((forecasting scheme n).number ≡ k) × ((forecasting scheme n).size ≡ size) → (answer_number r ≡ k) × (answer_length r ≡ size) × (answer_transaction r ≡ 0) × (answer_padding r ≡ 0) → Foretells
    forecasts k size e f = (f.0 ∙ sym e.0, f.1 ∙ sym e.1, f.2, f.3)

    -- what the reader of the mark answered
    pub forecast_17 : (e : Refusal) → r ≡ Err e → (e ≡ BadMarkOrLength) × (scheme ≢ 1) × (scheme ≢ 2) → Foretells
    forecast_17 e q h = forecasts 17 0 (foretold_17 h.1 h.2) (rw (q, h.0) (refl, refl, refl, refl))

    -- what the scheme's own size says
    module _ (known : (scheme ≡ 1) ⊎ (scheme ≡ 2)) (most size : ℕ) (fixed : (longest scheme ≡ most) × (forecast_size scheme n ≡ size)) where
      pub forecast_12 : (e : Refusal) → r ≡ Err e → (most < n) × (e ≡ TooLong) → Foretells
      forecast_12 e q h = forecasts 12 0 (foretold_12 known (omega (arith, fixed.0, h.0))) (rw (q, h.1) (refl, refl, refl, refl))

      pub forecast_sized : (s : ℕ) → (n ≤ most) × (s ≡ size) → (answer_number r ≡ 0) × (answer_length r ≡ s) × (answer_transaction r ≡ 0) × (answer_padding r ≡ 0) → Foretells
      forecast_sized s h f = forecasts 0 (forecast_size scheme n) (foretold_size known (omega (arith, fixed.0, h.0))) (f.0, f.1 ∙ h.1 ∙ sym fixed.1, f.2, f.3)

  -- what a mark fixes
  pub forecast_des : scheme ≡ 1 → (longest scheme ≡ 232) × (forecast_size scheme n ≡ des_size n)
  unfolding longest forecast_size choose
  forecast_des e = rw e (refl, eights_are_sealed n)

  pub forecast_aes : scheme ≡ 2 → (longest scheme ≡ 243) × (forecast_size scheme n ≡ n + 10)
  unfolding longest forecast_size choose
  forecast_aes e = rw e (refl, refl)
