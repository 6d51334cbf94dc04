pub mod Field
pub mod Table
