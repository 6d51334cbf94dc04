pub mod Delivery
pub mod Fixed
pub mod Number
pub mod Outcome
pub mod Refusal
pub mod Scheme
pub mod Tests
