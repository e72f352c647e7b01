pub mod TrueChain
pub mod AcceptedLinks
