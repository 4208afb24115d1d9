pub mod Failures
pub mod Listing
pub mod Steps
pub mod Loops
pub mod Looks
pub mod Actives
pub mod Making
pub mod Creating
