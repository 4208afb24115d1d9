pub mod FaultState
pub mod Losses
pub mod Strikes
pub mod Turns
