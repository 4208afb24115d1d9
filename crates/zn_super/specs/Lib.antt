pub mod Labels
pub mod Copies
