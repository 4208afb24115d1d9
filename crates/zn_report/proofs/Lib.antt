pub mod Runs
pub mod Walks
pub mod LayoutLaws
pub mod Places
