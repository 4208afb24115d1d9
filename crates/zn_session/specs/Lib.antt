pub mod Replies
pub mod SessionState
pub mod Steps
pub mod Told
pub mod PowerLaws
