pub mod Printed
pub mod View
pub mod Whole
