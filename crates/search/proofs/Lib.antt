pub mod Lists
pub mod Nest
pub mod Offers
pub mod Rules
