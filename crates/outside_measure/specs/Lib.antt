pub mod Added
pub mod Laws
