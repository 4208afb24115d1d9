pub mod Churn
pub mod Scratch
pub mod Top
