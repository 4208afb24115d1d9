pub mod Adapters
pub mod Host
