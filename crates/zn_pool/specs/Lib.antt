pub mod PoolState
pub mod Chains
pub mod Kept
