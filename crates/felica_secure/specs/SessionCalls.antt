-- docs/RULES.md, For C and Corners (mod.rs): the calls on the session that a C caller keeps. Assumes nothing.
use Rattle.std.specs.Prelude.{ℕ, ◌*◌, List, [], take}
use Rattle.answer.specs.Delivery.{delivering}
use Rattle.felica_secure.specs.Calls.{Kept, Call, answering, telling}
use Rattle.felica_secure.specs.Packed.{packed}
use Rattle.frame.specs.Scheme.{sealing}
use Rattle.session.specs.History.{Event, step, setting, response}
use Rattle.session.specs.Record.{encode, decode, is_session}
use Rattle.session.specs.Session.{with_number, stepped, listed_count, index, credentials_of, receiving, received}
use Rattle.session.specs.declared.context.AuthenticatedContext.{AuthenticatedContext}

-- a session as bytes (specs/Record of crate session)
abbrev pub kept_session : Kept AuthenticatedContext
kept_session = record { size = 180; encode = encode; decode = decode; is = is_session }

unfoldable pub call_step : AuthenticatedContext → Call AuthenticatedContext
call_step s = record { answer = packed (stepped s).number 0 0 (stepped s).transaction; bytes = []; state = (stepped s).session }

unfoldable pub call_set : ℕ → AuthenticatedContext → Call AuthenticatedContext
call_set n s = telling 0 0 0 (with_number n s)

unfoldable pub call_seal : ℕ → List ℕ → ℕ → AuthenticatedContext → Call AuthenticatedContext
call_seal code payload room s = answering (sealing s.scheme (credentials_of s) code s.transaction_number s.transaction_id payload room) s

unfoldable pub call_receive : ℕ → List ℕ → ℕ → AuthenticatedContext → Call AuthenticatedContext
call_receive code d room s = let o = receiving s code d room in answering o (received s o)

unfoldable pub call_index : ℕ → AuthenticatedContext → Call AuthenticatedContext
call_index node s = telling 0 (index s node) 0 s

unfoldable pub call_number : AuthenticatedContext → Call AuthenticatedContext
call_number s = telling 0 0 s.transaction_number s

unfoldable pub call_ceiling : AuthenticatedContext → Call AuthenticatedContext
call_ceiling s = telling 0 0 s.ceiling s

unfoldable pub call_count : AuthenticatedContext → Call AuthenticatedContext
call_count s = telling 0 s.turned_away 0 s

unfoldable pub call_scheme : AuthenticatedContext → Call AuthenticatedContext
call_scheme s = telling s.scheme 0 0 s

unfoldable pub call_id : ℕ → AuthenticatedContext → Call AuthenticatedContext
call_id room s = answering (delivering 0 s.transaction_id room) s

-- the nodes, as bytes
unfoldable pub call_nodes : ℕ → AuthenticatedContext → Call AuthenticatedContext
call_nodes room s = answering (delivering 0 (take (listed_count s.node_count * 2) s.nodes) room) s

-- an event of a history as a call
unfoldable pub call_of : Event → AuthenticatedContext → Call AuthenticatedContext
call_of step = call_step
call_of (setting n) = call_set n
call_of (response code d room) = call_receive code d room
