pub mod Endings
pub mod Headline
pub mod Laws
pub mod Progress
pub mod Script
pub mod States
pub mod Statuses
pub mod Steps
