pub mod QueueState
pub mod Kept
