-- The runs of format, dump and verify, over any source and device.
pub mod Dump
pub mod Formatted
pub mod Format
pub mod Verified
pub mod Verify
pub mod GivenBack
pub mod VerifySteps
pub mod HashDevice
pub mod StoredSuperblock
pub mod OnlyRead
pub mod Resumed
pub mod SameVerdicts
