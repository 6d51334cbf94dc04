-- HexFields: what is written as a field reads back as the same bytes, and is written for one number of bytes alone
pub mod HexFields
