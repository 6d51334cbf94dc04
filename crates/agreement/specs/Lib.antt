pub mod Agreement
pub mod Play
pub mod Table
pub mod inner
