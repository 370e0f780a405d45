pub mod Lists
pub mod Machine
pub mod Marks
pub mod Order
pub mod Places
pub mod Stored
