-- KeptHistories: a session that C keeps over a whole history of calls
-- KeptStates: calls on any state that C keeps as bytes
-- LoadedSessions: calls on the bytes of a session, once they were loaded or refused
-- PackedParts: an answer packed into 64 bits, and its parts
pub mod KeptHistories
pub mod KeptStates
pub mod LoadedSessions
pub mod PackedParts
