pub mod Calls
pub mod Counts
pub mod Listing
pub mod Loops
pub mod Seen
pub mod Weighed
