pub mod ValueLaws
pub mod ItemPlaces
pub mod ItemLists
pub mod Permissions
