pub mod Tally
pub mod Churning
pub mod Lines
