-- The program over any runtime: files, streams and randomness.
pub mod Refusals
pub mod Steps
pub mod Folders
pub mod RandomBytes
