pub mod Causes
pub mod Fresh
pub mod Laws
pub mod Memory
pub mod Quiet
pub mod Stores
pub mod States
pub mod Harms
