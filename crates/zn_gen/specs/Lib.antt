pub mod Cases
pub mod Churn
