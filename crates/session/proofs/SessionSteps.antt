-- The session's steps: which row decides, and what is left of the session. Assumes nothing.
use mathlib.Core.Path.{◌≡◌, refl, sym, ap, ap₂, ◌∙◌}
use mathlib.Core.Bool.{Bool, true, false}
use mathlib.Core.List.{List, ◌++◌}
use mathlib.Core.Logic.{◌⊎◌, inl, inr, ⊎_elim}
use Prim.Native.Nat.{ℕ, zero, suc, ◌+◌, ◌-◌, ◌%◌, ◌≤◌, ◌<◌, min}
use native.Mathlib.Nat.{sub-zero, min-eq_left, min-eq_right}
use native.Mathlib.Omega.{arith}
use borrow.Author.Tests.{eq-eqb, ne_eqb, lt-ltb, le-ltb, ltb-false}
use lib.Dec.{eqb, lit≤}
use lib.ListN.{length, take, drop, replicate, length-replicate}
use lib.Seq.{take_all}
use Rattle.std.specs.Prelude.{Result, Ok, Err, ◌≢◌}
use Rattle.cipher.proofs.Numbers.{le_or_lt}
use Rattle.answer.specs.declared.answer.Accepted.{Accepted}
use Rattle.answer.specs.declared.refusal.Refusal.{Refusal}
use Rattle.answer.specs.declared.refusal.Refusal.TheVariants.{NumberExhausted, NotWholeBlocks, TooShort, TooLong, MacDiffers, IdDiffers, NumberNotAbove, BadMarkOrLength}
use Rattle.answer.specs.declared.scheme.Scheme.{Scheme}
use Rattle.answer.specs.declared.scheme.Scheme.TheVariants.{Des, Aes128}
use Rattle.answer.specs.Scheme.{mark_of}
use Rattle.answer.specs.Refusal.{refusal_number}
use Rattle.answer.specs.Outcome.{Outcome, Meets, Answer, answer_number, answer_length, answer_transaction, answer_padding, acceptance, accepted, choose, decide, refused, first_of}
use Rattle.answer.specs.Delivery.{handing, delivering}
use Rattle.answer.specs.Tests.{isnt, either, both}
use Rattle.answer.proofs.Rows.{choose_keeps, refusal_some, err_meets, choose_most, numbered, first_passes, first_holds, either_false, is_number}
use Rattle.answer.proofs.Unpadded.{Unpadded, decide_unpadded}
use Rattle.frame.proofs.Paddings.{opening_unpadded}
use Rattle.frame.proofs.Schemes.{opening_whole}
use Rattle.session.specs.Session.{credentials_size, credentials_of, make_rows, filled, Makes, with_number, with_count, Step, stepped, StepsTo, Steps, more, counting, opened, accept_rows, receiving, received, Receives}
use Rattle.session.specs.declared.context.AuthenticatedContext.{AuthenticatedContext}

-- ---- the number step

-- a choice by a test whose outcome is known
chosen_first : (t : Bool) (a b : Step) → t ≡ true → choose t a b ≡ a
unfolding choose
chosen_first t a b e = rw e

chosen_second : (t : Bool) (a b : Step) → t ≡ false → choose t a b ≡ b
unfolding choose
chosen_second t a b e = rw e

module _ (s : AuthenticatedContext) where
  abbrev step_full : Step
  step_full = record { number = 9; transaction = 0; session = s }

  abbrev step_on : Step
  step_on = record { number = 0; transaction = s.transaction_number + 1; session = with_number (s.transaction_number + 1) s }

  pub stepped_full : s.ceiling ≤ s.transaction_number → stepped s ≡ step_full
  unfolding stepped isnt
  stepped_full h = chosen_first _ step_full step_on (ap isnt (le-ltb s.transaction_number s.ceiling h))

  pub stepped_on : s.transaction_number < s.ceiling → stepped s ≡ step_on
  unfolding stepped isnt
  stepped_on h = chosen_second _ step_full step_on (ap isnt (lt-ltb s.transaction_number s.ceiling h))

  -- by value
  pub step_refused : s.ceiling ≤ s.transaction_number → StepsTo s (Err NumberExhausted)
  step_refused h = (ap (λ (x : Step). x.number) (stepped_full h), ap (λ (x : Step). x.session) (stepped_full h))

  pub step_taken : s.transaction_number < s.ceiling → StepsTo s (Ok (with_number (s.transaction_number + 1) s))
  step_taken h = (ap (λ (x : Step). x.number) (stepped_on h), sym (ap (λ (x : Step). x.session) (stepped_on h)))

  -- on the session that is lent
  steps_as : (t : Step) (r : Answer) (u : AuthenticatedContext) → stepped s ≡ t → (answer_number r ≡ t.number) × (answer_length r ≡ 0) × (answer_transaction r ≡ t.transaction) × (answer_padding r ≡ 0) → u ≡ t.session → Steps s r u
  steps_as t r u q h c =
      record {
        number = h.0 ∙ sym (ap (λ (x : Step). x.number) q);
        length_none = h.1;
        transaction = h.2 ∙ sym (ap (λ (x : Step). x.transaction) q);
        padding_none = h.3;
        session = c ∙ sym (ap (λ (x : Step). x.session) q);
      }

  pub steps_refused : (e : Refusal) → StepsTo s (Err e) → {r : Answer} → r ≡ Err e → Steps s r s
  steps_refused e h q =
      rw q
      (⊎_elim
      (λ (l : s.ceiling ≤ s.transaction_number). let f = stepped_full l in steps_as _ (Err e) s f (sym h.0 ∙ ap (λ (x : Step). x.number) f, refl, refl, refl) refl)
      (λ (l : s.transaction_number < s.ceiling).
      let z : 0 ≡ refusal_number e = sym (ap (λ (x : Step). x.number) (stepped_on l)) ∙ h.0 in
      absurd (refusal_some e (sym z)))
      (le_or_lt s.ceiling s.transaction_number))

  pub steps_taken : (a : Accepted) (t u : AuthenticatedContext) → StepsTo s (Ok t) → u ≡ with_number t.transaction_number s
      → (a.length ≡ 0) × (a.transaction_number ≡ t.transaction_number) × (a.padding ≡ 0) → Steps s (Ok a) u
  unfolding with_number
  steps_taken a t u h e k =
      ⊎_elim
      (λ (l : s.ceiling ≤ s.transaction_number). let z : 9 ≡ 0 = sym (ap (λ (x : Step). x.number) (stepped_full l)) ∙ h.0 in absurd (omega (arith, z)))
      (λ (l : s.transaction_number < s.ceiling).
      let f = stepped_on l in
      let n = ap (λ (x : AuthenticatedContext). x.transaction_number) (h.1 ∙ ap (λ (x : Step). x.session) f) in
      steps_as _ (Ok a) u f (refl, k.0, k.1 ∙ n, k.2) (e ∙ ap (λ (m : ℕ). with_number m s) n))
      (le_or_lt s.ceiling s.transaction_number)

-- ---- the count

one_more : (n : ℕ) → n ≤ 65535 → min (n + 1) 65535 ≡ more n
unfolding more choose
one_more n most =
    ⊎_elim
    (λ (l : 65535 ≤ n). let m : 65535 ≤ n + 1 = omega arith in min-eq_right m ∙ rw (le-ltb n 65535 l) (omega arith))
    (λ (l : n < 65535). let m : n + 1 ≤ 65535 = omega arith in min-eq_left m ∙ rw (lt-ltb n 65535 l))
    (le_or_lt 65535 n)

module _ (number : ℕ) (s : AuthenticatedContext) where
  pub counted : 10 ≤ number → number ≤ 15 → s.turned_away ≤ 65535 → with_count (min (s.turned_away + 1) 65535) s ≡ counting number s
  unfolding counting choose both
  counted low high most =
      let l : 9 < number = omega arith in
      let h : number < 16 = omega arith in
      rw (lt-ltb 9 number l, lt-ltb number 16 h) (ap (λ (n : ℕ). with_count n s) (one_more s.turned_away most))

  pub not_counted : (10 ≤ number → number ≤ 15 → ⊥) → s ≡ counting number s
  unfolding counting choose both
  not_counted n =
      ⊎_elim
      (λ (l : 10 ≤ number).
      ⊎_elim
      (λ (h : 16 ≤ number). let k : 9 < number = l in rw (lt-ltb 9 number k, le-ltb number 16 h))
      (λ (h : number < 16). absurd (n l (omega arith)))
      (le_or_lt 16 number))
      (λ (l : number < 10). let k : number ≤ 9 = omega arith in rw (le-ltb 9 number k))
      (le_or_lt 10 number)

-- the refusals that are counted, by their names
pub number_counted : (r : Refusal) → (r ≡ NotWholeBlocks) ⊎ ((r ≡ TooShort) ⊎ ((r ≡ TooLong) ⊎ ((r ≡ MacDiffers) ⊎ ((r ≡ IdDiffers) ⊎ ((r ≡ NumberNotAbove)))))) → (10 ≤ refusal_number r) × (refusal_number r ≤ 15)
number_counted r h = grind arith

pub number_not_counted : (r : Refusal) → (r ≡ NotWholeBlocks → ⊥) → (r ≡ TooShort → ⊥) → (r ≡ TooLong → ⊥) → (r ≡ MacDiffers → ⊥) → (r ≡ IdDiffers → ⊥) → (r ≡ NumberNotAbove → ⊥) → 10 ≤ refusal_number r → refusal_number r ≤ 15 → ⊥
number_not_counted r a b c d e f l h = grind arith

-- ---- making

-- a copy over zeros
drop_zeros : (k n : ℕ) → drop k (replicate {A = ℕ} n 0) ≡ replicate (n - k) 0
drop_zeros zero n = ap (λ (k : ℕ). replicate k 0) (sym (sub-zero n))
drop_zeros (suc k) zero = let e : 0 - suc k ≡ 0 = omega arith in rw e
drop_zeros (suc k) (suc n) = let e : suc n - suc k ≡ n - k = omega arith in rw e (drop_zeros k n)

pub filled_is : (n : ℕ) (l s : List ℕ) → length l ≤ n → s ≡ take (length (replicate {A = ℕ} n 0)) l ++ drop (length l) (replicate n 0) → s ≡ filled n l
unfolding filled
filled_is n l s h e =
    let k : length l ≤ length (replicate {A = ℕ} n 0) = rw (length-replicate {A = ℕ} n 0) h in
    e ∙ rw (take_all (length (replicate {A = ℕ} n 0)) l k, drop_zeros (length l) n)

pub credentials_most : (scheme : ℕ) → credentials_size scheme ≤ 36
unfolding credentials_size
credentials_most scheme = choose_most (eqb scheme 1) 8 36 36 (lit≤ tt) (lit≤ tt)

-- one test of lengths that fails
any_of : (a i k n : Bool) → (i ≡ false) ⊎ ((k ≡ false) ⊎ (n ≡ false)) → either a (either (isnt i) (either (isnt k) (isnt n))) ≡ true
unfolding either isnt
any_of true i k n h = refl
any_of false false k n h = refl
any_of false true false n h = refl
any_of false true true false h = refl
any_of false true true true h = absurd (⊎_elim no (⊎_elim no no) h)
  where
    no : true ≡ false → ⊥
    no e = cc

-- a mark that names a scheme
pub known_mark : (s : Scheme) (mark : ℕ) → mark_of s ≡ mark → either (eqb mark 1) (eqb mark 2) ≡ true
unfolding either
known_mark Des mark h = rw (sym h)
known_mark Aes128 mark h = rw (sym h)

-- a mark from 1 to 2 is known
pub mark_one_two : (s : ℕ) → 1 ≤ s → s ≤ 2 → either (eqb s 1) (eqb s 2) ≡ true
unfolding either
mark_one_two s l h =
    ⊎_elim
    (λ (g : 2 ≤ s). let e : s ≡ 2 = omega arith in rw e)
    (λ (g : s < 2). let e : s ≡ 1 = omega arith in rw e)
    (le_or_lt 2 s)

-- a mark below 1 is unknown
pub mark_low : (s : ℕ) → s < 1 → either (eqb s 1) (eqb s 2) ≡ false
unfolding either
mark_low s h = let e : s ≡ 0 = omega arith in rw e

-- a mark above 2 is unknown
pub mark_high : (s : ℕ) → 2 < s → either (eqb s 1) (eqb s 2) ≡ false
unfolding either
mark_high s h =
    let n : s ≡ 1 → ⊥ = λ e. omega arith in
    let m : s ≡ 2 → ⊥ = λ e. omega arith in
    rw (ne_eqb s 1 n, ne_eqb s 2 m)

module _ (scheme id credentials listed : ℕ) where
  abbrev number_made : ℕ
  number_made = first_of (make_rows scheme id credentials listed)

  -- what the readers of mark and ID answered
  pub unknown_mark : (e : Refusal) → (e ≡ BadMarkOrLength) × (scheme ≢ 1) × (scheme ≢ 2) → number_made ≡ refusal_number e
  unfolding make_rows first_of choose isnt either
  unknown_mark e h = rw (h.0, ne_eqb scheme 1 h.1, ne_eqb scheme 2 h.2)

  pub wrong_id : (e : Refusal) → (id ≢ 6) × (e ≡ BadMarkOrLength) → number_made ≡ refusal_number e
  unfolding make_rows
  wrong_id e h = first_holds 17 _ _ (any_of _ (eqb id 6) (eqb credentials (credentials_size scheme)) (eqb (listed % 2) 0) (inl (ne_eqb id 6 h.0))) ∙ ap refusal_number (sym h.1)

  pub wrong_credentials : credentials ≢ credentials_size scheme → number_made ≡ 17
  unfolding make_rows
  wrong_credentials h = first_holds 17 _ _ (any_of _ (eqb id 6) (eqb credentials (credentials_size scheme)) (eqb (listed % 2) 0) (inr (inl (ne_eqb credentials (credentials_size scheme) h))))

  pub half_node : listed % 2 ≢ 0 → number_made ≡ 17
  unfolding make_rows
  half_node h = first_holds 17 _ _ (any_of _ (eqb id 6) (eqb credentials (credentials_size scheme)) (eqb (listed % 2) 0) (inr (inr (ne_eqb (listed % 2) 0 h))))

  module _ (mark : either (eqb scheme 1) (eqb scheme 2) ≡ true) (six : id ≡ 6) (size : credentials ≡ credentials_size scheme) (even : listed % 2 ≡ 0) where
    pub too_many_nodes : 128 < listed → number_made ≡ 1
    unfolding make_rows first_of choose isnt either
    too_many_nodes h = rw (mark, eq-eqb _ _ six, eq-eqb _ _ size, eq-eqb _ _ even, lt-ltb 128 listed h)

    pub no_row : listed ≤ 128 → number_made ≡ 0
    unfolding make_rows first_of choose isnt either
    no_row h = rw (mark, eq-eqb _ _ six, eq-eqb _ _ size, eq-eqb _ _ even, le-ltb 128 listed h)

  -- what holds where no row does
  pub record Makeable : Type 0 where
    pub six : id ≡ 6
    pub all : credentials ≡ credentials_size scheme
    pub short : listed ≤ 128

  -- k is the number of the rows
  pub make_passes : (k : ℕ) → k ≡ first_of (make_rows scheme id credentials listed) → k ≡ 0 → Makeable
  unfolding make_rows numbered both
  make_passes k e z =
      let a = first_passes (make_rows scheme id credentials listed) k refl e z in
      let b = (either_false _ _ a.0).1 in
      let c = either_false _ _ b in
      let d = either_false _ _ c.1 in
      record { six = is_number id 6 c.0; all = is_number credentials _ d.0; short = ltb-false 128 listed a.1.0 }

-- its rows have numbers
pub make_numbers : (scheme id credentials listed : ℕ) → numbered (make_rows scheme id credentials listed) ≡ true
unfolding make_rows numbered both
make_numbers scheme id credentials listed = refl

pub made_refused : (ceiling scheme number : ℕ) (id credentials nodes : List ℕ) (e : Refusal) {r : Result AuthenticatedContext Refusal} → r ≡ Err e
    → first_of (make_rows scheme (length id) (length credentials) (length nodes)) ≡ refusal_number e → Makes ceiling scheme number id credentials nodes r
made_refused ceiling scheme number id credentials nodes e {r} q h = rw q h

-- ---- the response step

-- no row of a response step holds: the payload fits
pub accept_fits : (session number payload room k : ℕ) → k ≡ first_of (accept_rows session number payload room) → k ≡ 0 → payload ≤ room
unfolding accept_rows numbered both
accept_fits session number payload room k e z = ltb-false room payload (first_passes (accept_rows session number payload room) k refl e z).1.0

module _ (s : AuthenticatedContext) (code : ℕ) (d : List ℕ) (room : ℕ) where
  -- the opening into the work block
  abbrev trial : Outcome
  trial = opened s code d

  opened_unpadded : Unpadded trial
  unfolding opened
  opened_unpadded = opening_unpadded s.scheme code 256 (credentials_of s) s.transaction_id d

  pub receiving_refused : (e : Refusal) (out : List ℕ) {r : Answer} → r ≡ Err e → refusal_number e ≡ trial.number → Meets (receiving s code d room) r out out
  unfolding receiving opened choose
  receiving_refused e out {r} q n =
      let h : trial.number ≢ 0 = λ z. refusal_some e (n ∙ z) in
      rw (ne_eqb _ 0 h, opening_whole s.scheme code 256 (credentials_of s) s.transaction_id d h, ← n) (err_meets e out q)

  -- the opening was accepted
  module _ (z : 0 ≡ trial.number) where
    goes_on : receiving s code d room ≡ decide (accept_rows s.transaction_number trial.transaction (length trial.bytes) room) (accepted trial.transaction trial.bytes)
    unfolding receiving choose acceptance
    goes_on =
        rw (eq-eqb _ 0 (sym z))
        (ap₂ (λ (n p : ℕ). decide (accept_rows s.transaction_number trial.transaction (length trial.bytes) room) (record { number = n; transaction = trial.transaction; padding = p; bytes = trial.bytes })) (sym z) opened_unpadded)

    pub not_above : trial.transaction ≤ s.transaction_number → receiving s code d room ≡ refused 15
    unfolding accept_rows decide choose isnt
    not_above h = goes_on ∙ rw (le-ltb _ _ h)

    pub above : s.transaction_number < trial.transaction → receiving s code d room ≡ delivering trial.transaction trial.bytes room
    unfolding accept_rows handing acceptance decide choose isnt
    above h = goes_on ∙ rw (lt-ltb _ _ h)

  -- no response has padding to tell
  pub receiving_unpadded : Unpadded (receiving s code d room)
  unfolding receiving
  receiving_unpadded = choose_keeps Unpadded _ _ _ (decide_unpadded _ _ opened_unpadded) opened_unpadded

-- ---- what is left of the session

module _ (s t : AuthenticatedContext) (o : Outcome) (before after : List ℕ) where
  pub receives_refused : (e : Refusal) → Meets o (Err e) before after → t ≡ counting (refusal_number e) s → Receives s o (Err e) t before after
  unfolding received choose
  receives_refused e m h = record { answer = m; padding_none = refl; session = h ∙ rw (← m.number, ne_eqb _ 0 (refusal_some e)) }

  pub receives_accepted : (a : Accepted) → Meets o (Ok a) before after → Unpadded o → t ≡ with_number a.transaction_number s → Receives s o (Ok a) t before after
  unfolding received choose
  receives_accepted a m u h = record { answer = m; padding_none = m.padding ∙ u; session = h ∙ rw (m.transaction, eq-eqb _ 0 (sym m.number)) }
