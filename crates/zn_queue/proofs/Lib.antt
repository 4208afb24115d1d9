pub mod LeaseLaws
pub mod Backing
pub mod Rotating
pub mod Counting
pub mod Submitting
