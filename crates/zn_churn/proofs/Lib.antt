pub mod Answered
pub mod Carried
pub mod Sizes
