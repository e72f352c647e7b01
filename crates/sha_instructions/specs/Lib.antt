pub mod Sha1Vectors
pub mod Sha256Vectors
pub mod Sha512Vectors
pub mod Vectors
