pub mod Items
pub mod Meant
