pub mod StepLaws
pub mod ShortScripts
