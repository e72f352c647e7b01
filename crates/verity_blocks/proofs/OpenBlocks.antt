pub mod OpenBlock
pub mod DigestsInTurn
pub mod Reached
pub mod ClosingBlocks
