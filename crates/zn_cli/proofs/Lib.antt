pub mod KindLists
pub mod Calls
pub mod Beginning
pub mod Churns
