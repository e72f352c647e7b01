-- The digest of a file, and the runs: over files, and over one file with output files.
pub mod FileDigest
pub mod FileCollisions
pub mod Digested
pub mod Digest
pub mod DigestSteps
pub mod Outputs
pub mod OutputSteps
