pub mod Lawfulness
pub mod Puts
pub mod Roundtrip
