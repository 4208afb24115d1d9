pub mod LaneLaws
pub mod RestLaws
