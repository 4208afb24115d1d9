pub mod Facts
pub mod Joined
pub mod Table
pub mod Machine
pub mod Marks
pub mod Kept
pub mod Laws
