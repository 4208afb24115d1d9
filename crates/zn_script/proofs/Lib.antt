pub mod Splitting
pub mod DataParts
pub mod WordValues
pub mod ItemLoop
pub mod FirstParts
pub mod CutWords
pub mod CutLoop
