use Rattle.std.proofs.Common.{rules}
use Rattle.std.proofs.lemmas.List.{nil_from_length}
use Rattle.answer.specs.Outcome.{over}
use Rattle.felica_secure.specs.Packed.{packed, packed_sealed}
use Rattle.felica_secure.specs.SessionCalls.{call_step}
use Rattle.felica_secure.proofs.sessions.felica_session_increment_transaction_number.Goals as goal

pub returns : goal.returns
unfolding call_step over packed_sealed packed
returns c = rw c.pack.ensures (rw (nil_from_length _ c.keep.auto.out) at (c.keep.ensures call_step (λ s t x y r i e k. (search rules, search rules, search rules))))
