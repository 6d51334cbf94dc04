-- Definitions that only contracts of functions inside the crate cite.
pub mod SessionClosures
