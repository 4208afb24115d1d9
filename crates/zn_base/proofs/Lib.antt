pub mod DecimalLaws
pub mod FewestRuns
pub mod PartLaws
pub mod RunLaws
pub mod ToldLaws
