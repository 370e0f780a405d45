pub mod Firsts
pub mod Sound
