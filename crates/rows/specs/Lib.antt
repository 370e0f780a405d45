pub mod Bounds
pub mod Read
pub mod Rows
