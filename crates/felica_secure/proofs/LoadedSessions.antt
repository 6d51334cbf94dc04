-- Calls on the bytes of a session, once they were loaded or refused (`load` of src/sessions.rt). Assumes nothing.
use mathlib.Core.Path.{◌≡◌, ◌∙◌}
use mathlib.Core.Bool.{true, false}
use mathlib.Core.List.{List, []}
use Prim.Native.Nat.{ℕ}
use Rattle.std.specs.Prelude.{Result, Ok, Err, MatchResult, IsOkAnd}
use Rattle.answer.specs.Outcome.{Answer, answer_number, answer_length, answer_transaction, answer_padding, over}
use Rattle.answer.specs.declared.answer.Accepted.{Accepted}
use Rattle.answer.specs.Refusal.{refusal_number}
use Rattle.answer.specs.declared.refusal.Refusal.{Refusal}
use Rattle.answer.specs.declared.refusal.Refusal.TheVariants.{BadMarkOrLength}
use Rattle.session.specs.Record.{encode, decode, is_session}
use Rattle.session.specs.declared.context.AuthenticatedContext.{AuthenticatedContext}
use Rattle.felica_secure.specs.Calls.{Call, Tells, Keeps}
use Rattle.felica_secure.specs.Packed.{packed, packed_sealed}
use Rattle.felica_secure.specs.SessionCalls.{kept_session}
use Rattle.felica_secure.proofs.PackedParts.{packed_alone, packed_unpadded}
use Rattle.felica_secure.proofs.KeptStates.{no_tells, no_keeps, tells, keeps}

-- a refusal, packed
pub packed_refusal : (e : Refusal) {r : ℕ} → r ≡ packed_sealed (refusal_number e) 0 0 0 0 → r ≡ refusal_number e
packed_refusal e p = p ∙ packed_alone (refusal_number e)

pub packed_bad : (e : Refusal) {r : ℕ} → e ≡ BadMarkOrLength → r ≡ packed_sealed (refusal_number e) 0 0 0 0 → r ≡ 17
packed_bad e q p = packed_refusal e p ∙ rw q

module _ (call : AuthenticatedContext → Call AuthenticatedContext) (b : List ℕ) {r : ℕ} where
  -- no session
  module _ (e : Refusal) (h : (is_session b ≡ false) × (e ≡ BadMarkOrLength)) (p : r ≡ packed_sealed (refusal_number e) 0 0 0 0) (out : List ℕ) where
    pub untold : Tells kept_session call b r out out
    untold = no_tells kept_session call b r h.0 (packed_bad e h.1 p) out

    pub unkept : Keeps kept_session call b b r out out
    unkept = no_keeps kept_session call b r h.0 (packed_bad e h.1 p) out

  -- a session s
  module _ (s : AuthenticatedContext) (h : (is_session b ≡ true) × (s ≡ decode b)) (before after : List ℕ) (e : r ≡ (call s).answer) (w : after ≡ over (call s).bytes before) where
    pub told : Tells kept_session call b r before after
    told = tells kept_session call b r h.0 s h.1 before after e w

    pub kept : (c : List ℕ) (t : AuthenticatedContext) → t ≡ (call s).state → (c ≡ encode t) × (decode c ≡ t) → Keeps kept_session call b c r before after
    kept = keeps kept_session call b r h.0 s h.1 before after e w

-- `map` over the session: what it makes is the answer
pub told_by_map : (call : AuthenticatedContext → Call AuthenticatedContext) (b : List ℕ) (loaded : Result AuthenticatedContext Refusal) (r : ℕ) (answer : Answer) (P : AuthenticatedContext → Accepted → Type 0)
    → MatchResult loaded (λ s. (is_session b ≡ true) × (s ≡ decode b)) (λ e. (is_session b ≡ false) × (e ≡ BadMarkOrLength))
    → MatchResult loaded (λ s. IsOkAnd answer (P s)) (λ e. answer ≡ Err e)
    → r ≡ packed_sealed (answer_number answer) 0 (answer_length answer) (answer_transaction answer) (answer_padding answer)
    → ((s : AuthenticatedContext) (a : Accepted) → P s a → (packed 0 0 a.length a.transaction_number ≡ (call s).answer) × (a.padding ≡ 0) × ((call s).bytes ≡ []))
    → Tells kept_session call b r [] []
unfolding over
told_by_map call b (Err e) r answer P h m p f = untold call b e h (p ∙ rw m) []
told_by_map call b (Ok s) r (Ok a) P h m p f = let k = f s a m in told call b s h [] [] (p ∙ packed_unpadded _ _ _ _ _ k.1 ∙ k.0) (rw k.2)
told_by_map call b (Ok s) r (Err e) P h m p f = absurd m
