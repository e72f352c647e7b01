-- Definitions that the contracts of steps speak of. No contract of `verity_tree` names one, but in what it says was fed.
pub mod Batches
pub mod Closing
pub mod Feeding
pub mod OpenBlocks
pub mod PlainRoots
