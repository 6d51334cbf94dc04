pub mod Calls
pub mod Packed
pub mod SessionCalls
pub mod inner
