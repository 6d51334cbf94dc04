-- docs/RULES.md, Carried and added (the turned-away count) and Corners (mod.rs): what happens to a session from its making on, which is number
-- steps, settings of the number, responses. Assumes nothing.
use Rattle.std.specs.Prelude.{ℕ, zero, suc, ◌+◌, ◌≡◌, ◌≤◌, List, [], ◌∷◌, ltb}
use Rattle.answer.specs.Outcome.{choose}
use Rattle.answer.specs.Tests.{both}
use Rattle.session.specs.Session.{with_number, stepped, receiving, received}
use Rattle.session.specs.declared.context.AuthenticatedContext.{AuthenticatedContext}

-- a number step; a setting of the number; a response with its code, its data and the size of the output
pub data Event : Type 0 where
  step : Event
  setting : ℕ → Event
  response : ℕ → List ℕ → ℕ → Event

-- the session after one
unfoldable pub next : AuthenticatedContext → Event → AuthenticatedContext
next s step = (stepped s).session
next s (setting n) = with_number n s
next s (response code d room) = received s (receiving s code d room)

-- the session after all
unfoldable pub after : AuthenticatedContext → List Event → AuthenticatedContext
after s [] = s
after s (e ∷ es) = after (next s e) es

-- no setting among the events goes below c
unfoldable pub NoneBelow : ℕ → List Event → Type 0
NoneBelow c [] = c ≡ c
NoneBelow c (step ∷ es) = NoneBelow c es
NoneBelow c (setting n ∷ es) = (c ≤ n) × NoneBelow c es
NoneBelow c (response code d room ∷ es) = NoneBelow c es

-- 1 for a response step that gave 10 to 15, else 0
unfoldable pub refusal : AuthenticatedContext → Event → ℕ
refusal s step = 0
refusal s (setting n) = 0
refusal s (response code d room) = choose (both (ltb 9 (receiving s code d room).number) (ltb (receiving s code d room).number 16)) 1 0

-- how many of the session's response steps gave 10 to 15
unfoldable pub refusals : AuthenticatedContext → List Event → ℕ
refusals s [] = 0
refusals s (e ∷ es) = refusal s e + refusals (next s e) es

-- the lesser of two numbers
unfoldable pub least : ℕ → ℕ → ℕ
least m n = choose (ltb m n) m n

-- the session after n number steps
unfoldable pub after_steps : ℕ → AuthenticatedContext → AuthenticatedContext
after_steps zero s = s
after_steps (suc n) s = after_steps n (stepped s).session
