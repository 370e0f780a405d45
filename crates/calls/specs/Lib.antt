pub mod Forms
pub mod Words
