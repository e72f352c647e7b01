mod Passes
mod Devices
mod Paths
pub mod AcceptedPaths
pub mod BesideTree
pub mod BoundData
pub mod HeldTree
pub mod KeptBlocks
pub mod PathSteps
pub mod PutTree
pub mod RootLevels
mod Slots
