pub mod Formula
pub mod Says
pub mod Setting
pub mod Steps
