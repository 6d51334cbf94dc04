pub mod Worked
pub mod WorkedDes
