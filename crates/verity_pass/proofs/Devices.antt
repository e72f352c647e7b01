pub mod StoredBlocks
pub mod FirstDifferentBlock
