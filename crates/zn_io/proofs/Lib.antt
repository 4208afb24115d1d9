pub mod Places
pub mod Findings
pub mod Readings
pub mod Recoveries
pub mod Sizes
pub mod NewDevices
