pub mod Answers
pub mod Determined
pub mod History
pub mod Levels
