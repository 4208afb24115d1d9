pub mod Numbers
pub mod Places
pub mod Labels
pub mod Blocks
