pub mod Bits
pub mod Bytes
pub mod Fips197
pub mod Fips46
pub mod Fold
pub mod Sp80038a
pub mod Sp80038b
pub mod inner
