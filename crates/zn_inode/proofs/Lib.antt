pub mod Conditions
pub mod Counts
pub mod Kept
pub mod Mounts
pub mod Rooms
