-- A session that C keeps, over a whole history of calls: its bytes stay a session, its count is the true one, and its ceiling is that of its making;
-- which bytes a refused response changes. Assumes nothing.
use mathlib.Core.Path.{◌≡◌, sym, ap, ◌∙◌}
use mathlib.Core.Bool.{true}
use mathlib.Core.List.{List, [], ◌∷◌, ◌++◌}
use Prim.Native.Nat.{ℕ, ◌≤◌}
use lib.Dec.{eqb, ltb, lit<}
use lib.ListN.{length, take, drop}
use Rattle.cipher.specs.Bytes.{Bytes}
use Rattle.answer.specs.Number.{number_bytes}
use Rattle.answer.specs.Outcome.{Outcome, row, choose, acceptance, accepted as accepting, over}
use Rattle.answer.specs.Tests.{isnt, both}
use Rattle.answer.proofs.Rows.{is_number, decide_false}
use Rattle.answer.proofs.Refusals.{zero_passes}
use Rattle.session.specs.History.{Event, step, setting, response, next, after, refusals, least}
use Rattle.session.specs.Session.{Step, more, receiving, make_rows, established_under}
use Rattle.session.specs.Record.{encode, decode, is_session}
use Rattle.session.specs.declared.context.AuthenticatedContext.{AuthenticatedContext}
use Rattle.session.proofs.Histories.{true_count_made, ceiling_stays_made, after_nil, after_cons, next_step, next_setting, next_response}
use Rattle.session.proofs.Encoding.{session_size, session_version, encode_decode, session_stays, made_stays, make_rows_numbered, turned_away_encoded}
use Rattle.session.proofs.SessionSteps.{stepped_full}
use Rattle.felica_secure.specs.Calls.{Keeps, making, MakesKept, Turn, events, last_bytes, Through, telling, answering}
use Rattle.felica_secure.specs.Packed.{packed}
use Rattle.felica_secure.specs.SessionCalls.{kept_session, call_step, call_set, call_receive, call_of}
use Rattle.felica_secure.proofs.KeptStates.{after_calls, kept_through}

-- the session that a call leaves is the history's next
call_next : (e : Event) (s : AuthenticatedContext) → (call_of e s).state ≡ next s e
unfolding call_of call_step call_set call_receive telling answering
call_next step s = sym (next_step s)
call_next (setting n) s = sym (next_setting s n)
call_next (response code d room) s = sym (next_response s code d room)

after_is : (es : List Event) (s : AuthenticatedContext) → after_calls call_of s es ≡ after s es
unfolding after_calls
after_is [] s = sym (after_nil s)
after_is (e ∷ es) s = ap (λ (t : AuthenticatedContext). after_calls call_of t es) (call_next e s) ∙ after_is es (next s e) ∙ sym (after_cons s e es)

-- through any calls, what the bytes decode to is the history of the session
pub kept_history : (b : List ℕ) (ts : List (Turn Event)) → is_session b ≡ true → Through kept_session call_of b ts → (is_session (last_bytes b ts) ≡ true) × (decode (last_bytes b ts) ≡ after (decode b) (events ts))
kept_history b ts y h =
    let r = kept_through kept_session call_of (λ e b c y q l. session_stays b c e y (q ∙ ap encode (call_next e (decode b))) (l ∙ session_size b y)) b ts y h in
    (r.0, r.1 ∙ after_is (events ts) (decode b))

-- ---- from its making on

module _ (ceiling scheme number : ℕ) (id credentials listed : List ℕ) (r : ℕ) (before b : List ℕ)
    (made : MakesKept kept_session (make_rows scheme (length id) (length credentials) (length listed)) (established_under ceiling scheme number id credentials listed) r before b) (same : length b ≡ length before)
    (accepted : (making kept_session (make_rows scheme (length id) (length credentials) (length listed)) (established_under ceiling scheme number id credentials listed) (length before)).number ≡ 0) where
  -- what was made is a session
  pub made_session : is_session b ≡ true
  unfolding making over acceptance
  made_session =
      let t = established_under ceiling scheme number id credentials listed in
      let w : Outcome = accepting 0 (encode t) in
      let rows = row 17 (isnt (eqb (length before) 180)) ∷ make_rows scheme (length id) (length credentials) (length listed) in
      let p = zero_passes rows w (lit< tt, make_rows_numbered scheme (length id) (length credentials) (length listed)) accepted in
      let o : making kept_session (make_rows scheme (length id) (length credentials) (length listed)) t (length before) ≡ w = decide_false rows w p in
      let size : length before ≡ 180 = is_number (length before) 180 p.0 in
      let e : b ≡ encode t ++ drop (length (encode t)) before = rw o at made.returns.output in
      made_stays ceiling scheme number id credentials listed b _ p.1 e (same ∙ size)

  -- through any calls, what the bytes decode to is the history of what was asked for
  pub kept_since_made : (ts : List (Turn Event)) → Through kept_session call_of b ts → decode (last_bytes b ts) ≡ after (established_under ceiling scheme number id credentials listed) (events ts)
  kept_since_made ts h = (kept_history b ts made_session h).1 ∙ ap (λ (s : AuthenticatedContext). after s (events ts)) (made.again accepted)

  -- its count is how many of its response calls were turned away with 10 to 15, at most 65,535
  pub kept_true_count : (ts : List (Turn Event)) → Through kept_session call_of b ts → (decode (last_bytes b ts)).turned_away ≡ least 65535 (refusals (established_under ceiling scheme number id credentials listed) (events ts))
  kept_true_count ts h = ap (λ (s : AuthenticatedContext). s.turned_away) (kept_since_made ts h) ∙ true_count_made ceiling scheme number id credentials listed (events ts)

  -- its ceiling is the one that was given
  pub kept_ceiling : (ts : List (Turn Event)) → Through kept_session call_of b ts → (decode (last_bytes b ts)).ceiling ≡ ceiling
  kept_ceiling ts h = ap (λ (s : AuthenticatedContext). s.ceiling) (kept_since_made ts h) ∙ ceiling_stays_made ceiling scheme number id credentials listed (events ts)

-- a step at or above the ceiling: 9, and the bytes are as they were
pub refused_step_bytes : (b c before after : List ℕ) (r : ℕ) → is_session b ≡ true → Bytes b → Keeps kept_session call_step b c r before after → (decode b).ceiling ≤ (decode b).transaction_number → (r ≡ 9) × (c ≡ b)
unfolding call_step choose packed
refused_step_bytes b c before after r y bytes keeps l =
    let f = stepped_full (decode b) l in (
      keeps.tells.answer ∙ rw y (ap (λ (t : Step). packed t.number 0 0 t.transaction) f),
      keeps.state ∙ rw y (ap (λ (t : Step). encode t.session) f ∙ encode_decode b (session_size b y) bytes (session_version b y)),
    )

-- a response that is turned away: of the session's bytes the count's two change, where it is counted, and no other
pub turned_away_bytes : (b c before after : List ℕ) (r code room : ℕ) (d : List ℕ) → is_session b ≡ true → Bytes b → Keeps kept_session (call_receive code d room) b c r before after
    → (k : ℕ) → (receiving (decode b) code d room).number ≡ k → (k ≡ 0 → ⊥)
    → c ≡ choose (both (ltb 9 k) (ltb k 16)) (take 178 b ++ number_bytes (more (decode b).turned_away) ++ drop 180 b) b
unfolding call_receive answering choose
turned_away_bytes b c before after r code room d y bytes keeps k e n = keeps.state ∙ rw y (turned_away_encoded b bytes y code room d k e n)
