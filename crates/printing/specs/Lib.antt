pub mod Labels
pub mod Formulas
