pub mod OnePass
pub mod ReadBlocks
pub mod ComparedPass
