pub mod Charge
pub mod Depth
pub mod Lists
pub mod Measures
pub mod Values
pub mod Weights
