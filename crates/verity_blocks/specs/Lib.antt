pub mod Levels
pub mod ClosingOrder
pub mod TreeOnDevice
pub mod TreeWriting
pub mod Windows
pub mod Steps
