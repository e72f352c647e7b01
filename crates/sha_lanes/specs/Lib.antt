pub mod Lanes
pub mod Sha1
pub mod Words32
pub mod Words64
