pub mod Files
pub mod NameMaps
pub mod Directories
pub mod Histories
pub mod DeviceTexts
pub mod DeviceNames
pub mod DeviceRest
pub mod DeviceLookups
