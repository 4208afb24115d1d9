pub mod Files
pub mod Findings
