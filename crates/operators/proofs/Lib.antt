pub mod Kept
pub mod Passing
