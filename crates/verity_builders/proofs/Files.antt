pub mod SmallFiles
pub mod FileCalls
pub mod FileTreeCalls
pub mod FileTreeMemory
pub mod FileTreeBlocks
