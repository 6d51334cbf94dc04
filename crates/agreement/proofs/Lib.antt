-- Credentials: of both ends, made of the random 2 that was read, or of the card's own
-- MessagePairs: a message and its answer, step by step, one argument for every exchange
-- Messages: what was made is read, and what was answered is accepted, where both ends hold the same
-- Statement3: statement 3, from two derivations on
-- TableValues: the table of docs/RULES.md
-- WholeTranscript: three pairs of messages after two derivations
pub mod Credentials
pub mod MessagePairs
pub mod Messages
pub mod Statement3
pub mod TableValues
pub mod WholeTranscript
