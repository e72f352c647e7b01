pub mod ClosesOnce
pub mod ClosingInTurn
pub mod ClosedStays
pub mod TimesCounted
pub mod HandedOut
pub mod PlacedBlocks
