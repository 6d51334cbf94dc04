-- What a closure on a session does, as a call of specs/Calls. Assumes nothing.
use Rattle.std.specs.Prelude.{ℕ, ◌≡◌, List}
use Rattle.std.specs.Borrow.{MutBor}
use Rattle.answer.specs.Outcome.{Answer, answer_number, answer_length, answer_transaction, answer_padding, over}
use Rattle.felica_secure.specs.Calls.{Call}
use Rattle.felica_secure.specs.Packed.{packed_sealed}
use Rattle.session.specs.declared.context.AuthenticatedContext.{AuthenticatedContext}

-- an answer as C gets it
abbrev pub packed_answer : Answer → ℕ
packed_answer r = packed_sealed (answer_number r) 0 (answer_length r) (answer_transaction r) (answer_padding r)

-- whatever it answers of the session s, and leaves of an output that was out, is what the call says
abbrev pub Telling : (AuthenticatedContext → MutBor (List ℕ) → Answer → MutBor (List ℕ) → Type 0) → AuthenticatedContext → List ℕ → (AuthenticatedContext → Call AuthenticatedContext) → Type 0
Telling post s out call = (before after : MutBor (List ℕ)) (r : Answer) → before.now ≡ out → post s before r after
    → (packed_answer r ≡ (call s).answer) × (after.now ≡ over (call s).bytes out)

-- the same, and so is the session that it leaves
abbrev pub Keeping : (MutBor AuthenticatedContext → MutBor (List ℕ) → Answer → MutBor AuthenticatedContext → MutBor (List ℕ) → Type 0) → AuthenticatedContext → List ℕ → (AuthenticatedContext → Call AuthenticatedContext) → Type 0
Keeping post s out call = (lent back : MutBor AuthenticatedContext) (before after : MutBor (List ℕ)) (r : Answer) → lent.now ≡ s → before.now ≡ out → post lent before r back after
    → (packed_answer r ≡ (call s).answer) × (after.now ≡ over (call s).bytes out) × (back.now ≡ (call s).state)
