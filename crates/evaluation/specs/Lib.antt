pub mod Columns
pub mod Values
