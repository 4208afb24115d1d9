pub mod AdapterLaws
pub mod HostLaws
