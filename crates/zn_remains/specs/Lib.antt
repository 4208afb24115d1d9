pub mod Events
pub mod Remaining
pub mod LineEvents
pub mod Histories
pub mod Laws
pub mod Files
pub mod Cases
