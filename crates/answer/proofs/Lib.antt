-- Elements: a list with some of its elements written out, over their number
-- Equality: `same` of two byte strings is true exactly if they are equal
-- Fits: the first n bytes of a string, where it has as many
-- Outputs: what an output holds after pieces were written one behind the other
-- Pieces: one piece copied behind another, or changed in place
-- Refusals: an acceptance comes from the work alone; a refusal writes nothing
-- Rows: how `decide` and a guard go by their rows; when an answer meets an outcome
-- Unpadded: outcomes whose padding is 0
pub mod Elements
pub mod Equality
pub mod Fits
pub mod Outputs
pub mod Pieces
pub mod Refusals
pub mod Rows
pub mod Unpadded
