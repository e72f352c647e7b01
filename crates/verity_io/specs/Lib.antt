pub mod Counting
pub mod Reading
pub mod Writing
pub mod Putting
pub mod Fusing
pub mod Moving
pub mod Growing
pub mod Syncing
