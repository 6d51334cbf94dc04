-- Definitions that only contracts of functions inside the crate cite.
pub mod AesSteps
pub mod DesSteps
pub mod Response
pub mod WorkBlock
