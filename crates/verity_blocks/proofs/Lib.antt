pub mod Levels
pub mod Order
pub mod OpenBlocks
pub mod Windows
pub mod ClosingSteps
mod ClosedLevel
mod DefinitionExamples
pub mod JoinedLists
