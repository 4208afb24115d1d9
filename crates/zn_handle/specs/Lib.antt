pub mod Kept
pub mod HandleState
pub mod Slots
pub mod Writers
