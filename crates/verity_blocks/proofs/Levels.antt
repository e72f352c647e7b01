pub mod LevelCounts
pub mod CutBlocks
pub mod FirstBlocks
pub mod DataBlocks
