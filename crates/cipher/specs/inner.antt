-- Definitions that only contracts of functions inside the crate cite.
pub mod AesTables
pub mod DesTables
pub mod DesWith
