pub mod Agreement
pub mod Carried
pub mod Laws
pub mod Machine
pub mod Steps
pub mod Theorem
