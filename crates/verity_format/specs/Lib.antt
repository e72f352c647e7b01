pub mod Superblocks
pub mod CheckedSuperblocks
pub mod SuperblockSteps
pub mod Pads
pub mod Descriptors
