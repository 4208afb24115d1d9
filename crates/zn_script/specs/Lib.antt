pub mod Places
pub mod Gives
pub mod Items
pub mod Cuts
pub mod Meant
pub mod Data
pub mod Tables
