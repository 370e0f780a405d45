pub mod Layout
pub mod Meaning
pub mod Numbers
pub mod Refusal
pub mod Stored
pub mod Held
pub mod Spellings
