pub mod Bytes
pub mod Examples
pub mod Reading
pub mod Record
pub mod Rewriting
pub mod Size
pub mod Writing
