pub mod Told
pub mod Generations
pub mod SlotSteps
pub mod WriterLaws
pub mod KeptLaws
