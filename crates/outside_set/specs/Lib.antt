pub mod Gate
pub mod Laws
