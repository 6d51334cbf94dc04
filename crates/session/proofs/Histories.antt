-- A session over its whole history: its count of responses turned away is the true one, its ceiling is that of its making, and its number goes up
-- by one with each step until it stands at the ceiling.
-- Assumes nothing.
use mathlib.Core.Path.{◌≡◌, refl, sym, ap, ◌∙◌}
use mathlib.Core.Bool.{Bool, true, false, true≢false}
use mathlib.Core.List.{List, [], ◌∷◌}
use mathlib.Core.Logic.{◌↔◌, ⊎_elim}
use Prim.Native.Nat.{ℕ, zero, suc, ◌+◌, ◌≤◌, ◌<◌}
use native.Mathlib.Omega.{arith}
use borrow.Author.Tests.{eq-eqb, lt-ltb, le-ltb, eqb-true, ltb-true, ltb-false}
use lib.Dec.{eqb, ltb, lit<}
use lib.ListN.{length}
use Rattle.cipher.proofs.Numbers.{le_or_lt}
use Rattle.answer.specs.Outcome.{Outcome, Row, choose, decide}
use Rattle.answer.specs.Tests.{both}
use Rattle.answer.proofs.Refusals.{zero_passes}
use Rattle.answer.proofs.Rows.{choose_keeps, isnt_false, decide_false}
use Rattle.frame.specs.Scheme.{sealing}
use Rattle.session.specs.History.{Event, step, setting, response, next, after, NoneBelow, refusal, refusals, least, after_steps}
use Rattle.session.specs.Session.{Step, with_number, with_count, stepped, more, counting, receiving, received, opened, credentials_of, accept_rows, established, established_under}
use Rattle.session.proofs.SessionSteps.{stepped_full, stepped_on}
use Rattle.session.specs.declared.context.AuthenticatedContext.{AuthenticatedContext}

-- ---- the true count

least_left : (m n : ℕ) → m ≤ n → least m n ≡ m
unfolding least choose
least_left m n h = go (ltb m n) refl
  where
    go : (b : Bool) → ltb m n ≡ b → choose b m n ≡ m
    go true e = refl
    go false e = let l = ltb-false m n e in omega arith

least_right : (m n : ℕ) → n ≤ m → least m n ≡ n
unfolding least choose
least_right m n h = rw (le-ltb m n h)

abbrev count : AuthenticatedContext → ℕ
count s = s.turned_away

-- the response step counts at most one
counted_one : (t : Bool) (s : AuthenticatedContext) → count s ≤ 65535 → count (choose t (with_count (more (count s)) s) s) ≡ least 65535 (count s + choose t 1 0)
unfolding choose with_count more
counted_one true s h =
    ⊎_elim
    (λ (l : 65535 ≤ count s). rw (le-ltb (count s) 65535 l) (let e : count s ≡ 65535 = omega arith in e ∙ sym (least_left 65535 (count s + 1) (omega arith))))
    (λ (l : count s < 65535). rw (lt-ltb (count s) 65535 l) (sym (least_right 65535 (count s + 1) (omega arith))))
    (le_or_lt 65535 (count s))
counted_one false s h = sym (least_right 65535 (count s + 0) (omega arith) ∙ omega arith)

received_count : (s : AuthenticatedContext) (o : Outcome) → count s ≤ 65535 → count (received s o) ≡ least 65535 (count s + choose (both (ltb 9 o.number) (ltb o.number 16)) 1 0)
unfolding received counting choose with_number both
received_count s o h = go (eqb o.number 0) refl
  where
    go : (b : Bool) → eqb o.number 0 ≡ b
        → count (choose b (with_number o.transaction s) (choose (both (ltb 9 o.number) (ltb o.number 16)) (with_count (more (count s)) s) s)) ≡ least 65535 (count s + choose (both (ltb 9 o.number) (ltb o.number 16)) 1 0)
    go true e = let z : o.number ≡ 0 = eqb-true o.number 0 e in rw z (counted_one false s h)
    go false e = counted_one (both (ltb 9 o.number) (ltb o.number 16)) s h

-- a number step does not count
stepped_count : (s : AuthenticatedContext) → count (stepped s).session ≡ count s
unfolding stepped with_number
stepped_count s = choose_keeps (λ (r : Step). count r.session ≡ count s) _ _ _ refl refl

next_count : (s : AuthenticatedContext) (e : Event) → count s ≤ 65535 → count (next s e) ≡ least 65535 (count s + refusal s e)
unfolding next refusal with_number
next_count s step h = stepped_count s ∙ sym (least_right 65535 (count s + 0) (omega arith) ∙ omega arith)
next_count s (setting n) h = sym (least_right 65535 (count s + 0) (omega arith) ∙ omega arith)
next_count s (response code d room) h = received_count s (receiving s code d room) h

least_most : (n : ℕ) → least 65535 n ≤ 65535
least_most n =
    ⊎_elim
    (λ (l : 65535 ≤ n). rw (least_left 65535 n l) (omega arith))
    (λ (l : n < 65535). rw (least_right 65535 n (omega arith)) (omega arith))
    (le_or_lt 65535 n)

least_least : (m n : ℕ) → least 65535 (least 65535 m + n) ≡ least 65535 (m + n)
least_least m n =
    ⊎_elim
    (λ (l : 65535 ≤ m). rw (least_left 65535 m l) (least_left 65535 (65535 + n) (omega arith) ∙ sym (least_left 65535 (m + n) (omega arith))))
    (λ (l : m < 65535). rw (least_right 65535 m (omega arith)))
    (le_or_lt 65535 m)

-- the count is how many of the session's response steps gave 10 to 15 since its making, at most 65,535
pub true_count : (s : AuthenticatedContext) (es : List Event) → count s ≤ 65535 → count (after s es) ≡ least 65535 (count s + refusals s es)
unfolding after refusals
true_count s [] h = sym (least_right 65535 (count s + 0) (omega arith) ∙ omega arith)
true_count s (e ∷ es) h =
    let q : count (next s e) ≡ least 65535 (count s + refusal s e) = next_count s e h in
    let l : count (next s e) ≤ 65535 = rw q (least_most (count s + refusal s e)) in
    let r : ℕ = refusals (next s e) es in
    let m : count s + refusal s e + r ≡ count s + (refusal s e + r) = omega arith in
    true_count (next s e) es l ∙ ap (λ (k : ℕ). least 65535 (k + r)) q ∙ least_least (count s + refusal s e) r ∙ ap (least 65535) m

-- from its making on
pub true_count_made : (ceiling scheme number : ℕ) (id credentials nodes : List ℕ) (es : List Event)
    → count (after (established_under ceiling scheme number id credentials nodes) es) ≡ least 65535 (refusals (established_under ceiling scheme number id credentials nodes) es)
unfolding established_under
true_count_made ceiling scheme number id credentials nodes es = true_count (established_under ceiling scheme number id credentials nodes) es (omega arith) ∙ ap (least 65535) (omega arith)

-- ---- the number and the ceiling

module _ (s : AuthenticatedContext) where
  -- a step is refused exactly at or above the ceiling; then it gives 9, and the session is as it was
  pub steps_exactly : (((stepped s).number ≡ 0 → ⊥) ↔ (s.ceiling ≤ s.transaction_number)) × (s.ceiling ≤ s.transaction_number → stepped s ≡ record { number = 9; transaction = 0; session = s })
  steps_exactly = (
    (
      λ h. ⊎_elim
          (λ (l : s.ceiling ≤ s.transaction_number). l)
          (λ (l : s.transaction_number < s.ceiling). absurd (h (ap (λ (r : Step). r.number) (stepped_on s l))))
          (le_or_lt s.ceiling s.transaction_number),
      λ l z. let q : ◌≡◌ {A = ℕ} 9 0 = sym (ap (λ (r : Step). r.number) (stepped_full s l)) ∙ z in omega arith,
    ),
    stepped_full s,
  )

  -- without a ceiling of its own: exactly at 0xFFFF
  pub steps_exactly_ffff : s.ceiling ≡ 0xFFFF → s.transaction_number < 65536 → ((stepped s).number ≡ 0 → ⊥) ↔ (s.transaction_number ≡ 0xFFFF)
  steps_exactly_ffff c n = (
    λ h. let l = steps_exactly.0.0 h in omega arith,
    λ e. steps_exactly.0.1 (omega arith),
  )

-- from the making on
pub steps_exactly_made : (scheme number : ℕ) (id credentials nodes : List ℕ) → number < 65536 → ((stepped (established scheme number id credentials nodes)).number ≡ 0 → ⊥) ↔ (number ≡ 0xFFFF)
unfolding established_under
steps_exactly_made scheme number id credentials nodes h = steps_exactly_ffff (established scheme number id credentials nodes) refl h

-- a number that is set below the ceiling steps
pub set_below : (n : ℕ) (s : AuthenticatedContext) → n < s.ceiling → stepped (with_number n s) ≡ record { number = 0; transaction = n + 1; session = with_number (n + 1) s }
unfolding with_number
set_below n s l = stepped_on (with_number n s) l

-- a session that steps n times from k has the number k + n, and all else as it was
pub after_steps_lem : (n : ℕ) (s : AuthenticatedContext) → s.transaction_number + n ≤ s.ceiling → after_steps n s ≡ with_number (s.transaction_number + n) s
unfolding after_steps with_number
after_steps_lem zero s h = let e : s.transaction_number + 0 ≡ s.transaction_number = omega arith in rw e
after_steps_lem (suc n) s h =
    let below : s.transaction_number < s.ceiling = omega arith in
    let l : s.transaction_number + 1 + n ≤ s.ceiling = omega arith in
    let e : s.transaction_number + 1 + n ≡ s.transaction_number + suc n = omega arith in
    ap (λ (r : Step). after_steps n r.session) (stepped_on s below) ∙ after_steps_lem n (with_number (s.transaction_number + 1) s) l ∙ ap (λ (k : ℕ). with_number k s) e

-- from its ceiling on it stays as it is
steps_stay : (n : ℕ) (s : AuthenticatedContext) → s.ceiling ≤ s.transaction_number → after_steps n s ≡ s
unfolding after_steps
steps_stay zero s h = refl
steps_stay (suc n) s h = ap (λ (r : Step). after_steps n r.session) (stepped_full s h) ∙ steps_stay n s h

-- one that steps too often stops at its ceiling
steps_reach : (n : ℕ) (s : AuthenticatedContext) → s.transaction_number ≤ s.ceiling → s.ceiling ≤ s.transaction_number + n → after_steps n s ≡ with_number s.ceiling s
unfolding after_steps with_number
steps_reach zero s low high = let e : s.ceiling ≡ s.transaction_number = omega arith in rw e
steps_reach (suc n) s low high =
    ⊎_elim
    (λ (l : s.ceiling ≤ s.transaction_number).
    let e : s.ceiling ≡ s.transaction_number = omega arith in
    steps_stay (suc n) s l ∙ rw e)
    (λ (l : s.transaction_number < s.ceiling).
    let h : s.transaction_number + 1 ≤ s.ceiling = omega arith in
    let k : s.ceiling ≤ s.transaction_number + 1 + n = omega arith in
    ap (λ (r : Step). after_steps n r.session) (stepped_on s l) ∙ steps_reach n (with_number (s.transaction_number + 1) s) h k)
    (le_or_lt s.ceiling s.transaction_number)

-- where n steps are too many, it stands at the ceiling; where it stood there, or above, it is the session itself
pub steps_stop : (n : ℕ) (s : AuthenticatedContext)
    → (s.transaction_number ≤ s.ceiling → s.ceiling ≤ s.transaction_number + n → after_steps n s ≡ with_number s.ceiling s) × (s.ceiling ≤ s.transaction_number → after_steps n s ≡ s)
steps_stop n s = (steps_reach n s, steps_stay n s)

-- as far as its ceiling, steps give no number twice
pub never_twice : (m n : ℕ) (s : AuthenticatedContext) → m < n → s.transaction_number + n ≤ s.ceiling → (after_steps m s).transaction_number ≡ (after_steps n s).transaction_number → ⊥
unfolding with_number
never_twice m n s h l e =
    let a : (after_steps m s).transaction_number ≡ s.transaction_number + m = ap (λ (t : AuthenticatedContext). t.transaction_number) (after_steps_lem m s (omega arith)) in
    let b : (after_steps n s).transaction_number ≡ s.transaction_number + n = ap (λ (t : AuthenticatedContext). t.transaction_number) (after_steps_lem n s l) in
    omega arith

-- ---- what an event leaves as it was

-- a part of the session that neither a number nor a count changes
module _ (part : AuthenticatedContext → ℕ) (of_number : (n : ℕ) (s : AuthenticatedContext) → part (with_number n s) ≡ part s) (of-count : (n : ℕ) (s : AuthenticatedContext) → part (with_count n s) ≡ part s) where
  next_keeps : (e : Event) (s : AuthenticatedContext) → part (next s e) ≡ part s
  unfolding next stepped received counting
  next_keeps step s = choose_keeps (λ (r : Step). part r.session ≡ part s) _ _ _ refl (of_number _ s)
  next_keeps (setting n) s = of_number n s
  next_keeps (response code d room) s = choose_keeps (λ (t : AuthenticatedContext). part t ≡ part s) _ _ _ (of_number _ s) (choose_keeps (λ (t : AuthenticatedContext). part t ≡ part s) _ _ _ (of-count _ s) refl)

pub next_mark : (e : Event) (s : AuthenticatedContext) → (next s e).scheme ≡ s.scheme
unfolding with_number with_count
next_mark e s = next_keeps (λ (t : AuthenticatedContext). t.scheme) (λ n t. refl) (λ n t. refl) e s

pub next_listed : (e : Event) (s : AuthenticatedContext) → (next s e).node_count ≡ s.node_count
unfolding with_number with_count
next_listed e s = next_keeps (λ (t : AuthenticatedContext). t.node_count) (λ n t. refl) (λ n t. refl) e s

next_ceiling : (e : Event) (s : AuthenticatedContext) → (next s e).ceiling ≡ s.ceiling
unfolding with_number with_count
next_ceiling e s = next_keeps (λ (t : AuthenticatedContext). t.ceiling) (λ n t. refl) (λ n t. refl) e s

-- over any steps, settings and responses the ceiling is what it was
pub ceiling_stays : (es : List Event) (s : AuthenticatedContext) → (after s es).ceiling ≡ s.ceiling
unfolding after
ceiling_stays [] s = refl
ceiling_stays (e ∷ es) s = ceiling_stays es (next s e) ∙ next_ceiling e s

-- which is that of the making
pub ceiling_stays_made : (ceiling scheme number : ℕ) (id credentials nodes : List ℕ) (es : List Event) → (after (established_under ceiling scheme number id credentials nodes) es).ceiling ≡ ceiling
unfolding established_under
ceiling_stays_made ceiling scheme number id credentials nodes es = ceiling_stays es (established_under ceiling scheme number id credentials nodes)

-- ---- what goes past the ceiling

-- the session with another ceiling
abbrev under : ℕ → AuthenticatedContext → AuthenticatedContext
under c s =
    record {
      transaction_number = s.transaction_number;
      transaction_id = s.transaction_id;
      scheme = s.scheme;
      credentials = s.credentials;
      nodes = s.nodes;
      node_count = s.node_count;
      turned_away = s.turned_away;
      ceiling = c;
    }

-- the response step is the same under every ceiling, and so is sealing
pub receiving_under : (c : ℕ) (s : AuthenticatedContext) (code room : ℕ) (d : List ℕ) → receiving (under c s) code d room ≡ receiving s code d room
unfolding receiving opened credentials_of
receiving_under c s code room d = refl

pub sealing_under : (c : ℕ) (s : AuthenticatedContext) (code room : ℕ) (payload : List ℕ)
    → sealing (under c s).scheme (credentials_of (under c s)) code (under c s).transaction_number (under c s).transaction_id payload room ≡ sealing s.scheme (credentials_of s) code s.transaction_number s.transaction_id payload room
unfolding credentials_of
sealing_under c s code room payload = refl

-- a response that is taken has a number above the session's
pub taken_above : (s : AuthenticatedContext) (code room : ℕ) (d : List ℕ) → (receiving s code d room).number ≡ 0 → s.transaction_number < (receiving s code d room).transaction
unfolding receiving choose accept_rows
taken_above s code room d = go (eqb (opened s code d).number 0) refl
  where
    o : Outcome
    o = opened s code d

    rows : List Row
    rows = accept_rows s.transaction_number o.transaction (length o.bytes) room

    go : (b : Bool) → eqb o.number 0 ≡ b → (choose b (decide rows o) o).number ≡ 0 → s.transaction_number < (choose b (decide rows o) o).transaction
    go true e z =
        let p = zero_passes rows o (lit< tt, (lit< tt, tt)) z in
        let l : s.transaction_number < o.transaction = ltb-true _ _ (isnt_false _ p.0) in
        rw (decide_false rows o p) l
    go false e z = let q : eqb o.number 0 ≡ true = eq-eqb _ _ z in absurd (true≢false (sym q ∙ e))

-- once the number is at or above the ceiling, it stays there until it is set below
received_stays : (s : AuthenticatedContext) (o : Outcome) → (o.number ≡ 0 → s.transaction_number < o.transaction) → s.ceiling ≤ s.transaction_number → s.ceiling ≤ (received s o).transaction_number
unfolding received counting with_number with_count choose
received_stays s o h l = go (eqb o.number 0) refl
  where
    go : (b : Bool) → eqb o.number 0 ≡ b → s.ceiling ≤ (choose b (with_number o.transaction s) (counting o.number s)).transaction_number
    go true e = let m = h (eqb-true _ _ e) in omega arith
    go false e = choose_keeps (λ (t : AuthenticatedContext). s.ceiling ≤ t.transaction_number) _ _ _ l l

full_stays : (es : List Event) (s : AuthenticatedContext) → NoneBelow s.ceiling es → s.ceiling ≤ s.transaction_number → (after s es).ceiling ≤ (after s es).transaction_number
unfolding after NoneBelow next with_number
full_stays [] s h l = l
full_stays (step ∷ es) s h l = rw (ap (λ (r : Step). after r.session es) (stepped_full s l)) (full_stays es s h l)
full_stays (setting n ∷ es) s h l = full_stays es (with_number n s) h.1 h.0
full_stays (response code d room ∷ es) s h l =
    let t = received s (receiving s code d room) in
    let c : t.ceiling ≡ s.ceiling = next_ceiling (response code d room) s in
    full_stays es t (rw c h) (rw c (received_stays s (receiving s code d room) (taken_above s code room d) l))

-- then, after any steps, responses and settings of which none goes below the ceiling, the step is refused
pub refused_until : (es : List Event) (s : AuthenticatedContext) → NoneBelow s.ceiling es → s.ceiling ≤ s.transaction_number → stepped (after s es) ≡ record { number = 9; transaction = 0; session = after s es }
refused_until es s h l = stepped_full (after s es) (full_stays es s h l)

-- ---- the definitions, step by step, for the crates above

pub next_step : (s : AuthenticatedContext) → next s step ≡ (stepped s).session
unfolding next
next_step s = refl

pub next_setting : (s : AuthenticatedContext) (n : ℕ) → next s (setting n) ≡ with_number n s
unfolding next
next_setting s n = refl

pub next_response : (s : AuthenticatedContext) (code : ℕ) (d : List ℕ) (room : ℕ) → next s (response code d room) ≡ received s (receiving s code d room)
unfolding next
next_response s code d room = refl

pub after_nil : (s : AuthenticatedContext) → after s [] ≡ s
unfolding after
after_nil s = refl

pub after_cons : (s : AuthenticatedContext) (e : Event) (es : List Event) → after s (e ∷ es) ≡ after (next s e) es
unfolding after
after_cons s e es = refl
